-- Cells that need no quotes.
use Rattle.std.proofs.Common.{◌≡◌, ℕ, ◌+◌, ◌%◌, ◌^◌, ◌<◌, ◌≤◌, false, [], ◌∷◌, refl, arith}
use Rattle.std.proofs.lemmas.Bool.{ne_eqb}
use Rattle.std.proofs.lemmas.Fmt.{decimal_by_steps}
use Rattle.std.proofs.lemmas.List.Folds.{list_any-append}
use Rattle.std.specs.Prelude.{decimal}
use Rattle.csv.specs.Writing.{default_writer, needs_byte, needs_quotes}
use Rattle.mrp_report.specs.page.CsvCells.{cell_text}

-- a byte from the digit 0 on needs none
digit : (b : ℕ) → 48 ≤ b → needs_byte default_writer b ≡ false
digit b h = rw (ne_eqb b 44 (λ e. omega arith), ne_eqb b 34 (λ e. omega arith), ne_eqb b 13 (λ e. omega arith), ne_eqb b 10 (λ e. omega arith)) refl

digits_plain : (n : ℕ) → n < 2 ^ 64 → needs_quotes default_writer (decimal n) ≡ false
digits_plain =
    decimal_by_steps (λ n ds. needs_quotes default_writer ds ≡ false)
    (λ n h. rw (digit (48 + n) (omega arith)) refl)
    (λ n ds h so_far. rw (list_any-append (needs_byte default_writer) ds ((48 + n % 10) ∷ []), so_far, digit (48 + n % 10) (omega arith)) refl)

-- a number is its own cell
pub plain : (n : ℕ) → n < 2 ^ 64 → cell_text (decimal n) ≡ decimal n
plain n h = rw (digits_plain n h) refl
