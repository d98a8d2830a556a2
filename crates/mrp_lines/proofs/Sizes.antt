-- Which cells stand in one line.
use Rattle.std.proofs.Common.{◌≡◌, ◌∙◌, ◌+◌, ◌<◌, ◌≤◌, ℕ, Bool, true, false, List, [], ◌∷◌, length, take, drop, get_or, refl, sym, ap, arith}
use Rattle.std.specs.Prelude.{◌==◌, ◌&&◌, ◌||◌, nat_le}
use Rattle.std.specs.List.{list_any, onto_first}
use Rattle.std.specs.Prelude.{◌-◌}
use Rattle.std.specs.List.{All}
use Rattle.csv.specs.Records.{Row, cut_from, fields_of, text_of}
use Rattle.std.proofs.lemmas.Bool.{false_from_ne_true, le-leb, lt-leb}
use Rattle.std.proofs.lemmas.List.{take-append-drop}
use Rattle.std.proofs.lemmas.List.Elements.{All-drop, All-head, All-tail, All-take}
use Rattle.std.proofs.lemmas.List.Folds.{list_any_at, list_any_none}
use Rattle.std.proofs.lemmas.List.Splits.{length-slice_split, slice_split-cons_no, slice_split-cons_yes}
use Rattle.std.proofs.lemmas.List.Sums.{sum_by-append, sum_by-cons, sum_by_more}
use Rattle.mrp_rows.specs.Bundle.{ends_line}
use Rattle.mrp_lines.specs.Lines.{AreUnended, ArePlain, cells_of, have_ends, is_comma, is_line, is_special, size_of}
use Rattle.mrp_lines.specs.declared.line.TheConstants.{LONGEST_LINE}

-- an end of a line stands in a cell
pub not-line : (cells : List (List ℕ)) → have_ends cells ≡ true → is_line cells ≡ false
not-line cells e = rw e (by (nat_le (size_of cells) LONGEST_LINE))
  where
    by : (b : Bool) → (b && false) ≡ false
    by true = refl
    by false = refl

pub cell-ends : (cells : List (List ℕ)) (i : ℕ) → i < length cells → list_any ends_line (get_or cells i []) ≡ true → is_line cells ≡ false
cell-ends cells i within e = not-line cells (list_any_at (list_any ends_line) cells i [] within e)

-- or they are too long
pub too-long : (cells : List (List ℕ)) → LONGEST_LINE < size_of cells → is_line cells ≡ false
too-long cells long = rw (lt-leb (size_of cells) LONGEST_LINE long) refl

pub cell-long : (cells : List (List ℕ)) (i room : ℕ) → i < length cells → room + size_of (take i cells) ≡ LONGEST_LINE → room ≤ length (get_or cells i []) → is_line cells ≡ false
cell-long cells i room within so_far few =
    let weight : List ℕ → ℕ = λ cell. length cell + 1 in
    let next = sum_by_more (λ (cell : List ℕ). length cell + 1) cells i [] within in
    let whole = ap size_of (sym (take-append-drop (i + 1) cells)) ∙ sum_by-append (λ (cell : List ℕ). length cell + 1) (take (i + 1) cells) (drop (i + 1) cells) in
    too-long cells (omega (arith, next, whole, so_far, few))

-- and all others do
pub line-is : (cells : List (List ℕ)) → size_of cells ≤ LONGEST_LINE → have_ends cells ≡ false → is_line cells ≡ true
line-is cells few none = rw (le-leb (size_of cells) LONGEST_LINE few, none) refl

-- a line without quotes
record Cut (line : List ℕ) : Type 0 where
  size : size_of (cells_of line) ≡ length line + 1
  none : have_ends (cells_of line) ≡ false

onto-size : (byte : ℕ) (cells : List (List ℕ)) → 0 < length cells → size_of (onto_first byte cells) ≡ size_of cells + 1
onto-size byte [] some = absurd (omega (arith, some))
onto-size byte (c ∷ cells) some = omega (arith, sum_by-cons (λ (cell : List ℕ). length cell + 1) c cells, sum_by-cons (λ (cell : List ℕ). length cell + 1) (byte ∷ c) cells)

onto-none : (byte : ℕ) (cells : List (List ℕ)) → ends_line byte ≡ false → have_ends cells ≡ false → have_ends (onto_first byte cells) ≡ false
onto-none byte [] other none = rw other refl
onto-none byte (c ∷ cells) other none = rw other none

plain-cut : (line : List ℕ) → ArePlain line → AreUnended line → Cut line
plain-cut [] plain one = record { size = refl; none = refl }
plain-cut (byte ∷ line) plain one =
    by (plain-cut line (All-tail (λ b. is_special b ≡ false) byte line plain) (All-tail (λ b. (b == 10) ≡ false) byte line one)) (is_comma byte) refl
  where
    other : ends_line byte ≡ false
    other = bare (byte == 34) (byte == 13) (byte == 10) (All-head (λ b. is_special b ≡ false) byte line plain) (All-head (λ b. (b == 10) ≡ false) byte line one)
      where
        bare : (quote return feed : Bool) → (quote || return) ≡ false → feed ≡ false → (feed || return) ≡ false
        bare quote true true p o = absurd cc
        bare quote false true p o = absurd cc
        bare quote false false p o = refl
        bare true true false p o = absurd cc
        bare false true false p o = absurd cc

    by : Cut line → (comma : Bool) → is_comma byte ≡ comma → Cut (byte ∷ line)
    by cut true is =
        let split = slice_split-cons_yes is_comma byte line is in
        record { size = omega (arith, cut.size, ap size_of split, sum_by-cons (λ (cell : List ℕ). length cell + 1) [] (cells_of line)); none = ap have_ends split ∙ cut.none }
    by cut false is =
        let split = slice_split-cons_no is_comma byte line is in
        record {
          size = omega (arith, cut.size, ap size_of split, onto-size byte (cells_of line) (omega (arith, length-slice_split is_comma line)));
          none = ap have_ends split ∙ onto-none byte (cells_of line) other cut.none;
        }

pub plain-line : (line : List ℕ) → ArePlain line → AreUnended line → is_line (cells_of line) ≡ nat_le (length line + 1) LONGEST_LINE
plain-line line plain one =
    let cut = plain-cut line plain one in
    rw (cut.size, cut.none) (by (nat_le (length line + 1) LONGEST_LINE))
  where
    by : (b : Bool) → (b && true) ≡ b
    by true = refl
    by false = refl

-- a record whose text has no end of a line has none in a cell
module _ (bytes : List ℕ) (all : All (λ byte. ends_line byte ≡ false) bytes) where
  cut-none : (start : ℕ) (places : List ℕ) → have_ends (cut_from start places bytes) ≡ false
  unfolding cut_from
  cut-none start [] = refl
  cut-none start (end ∷ places) =
      let cell : List ℕ = take (end - start) (drop start bytes) in
      rw (list_any_none ends_line cell (All-take (λ byte. ends_line byte ≡ false) (end - start) (drop start bytes) (All-drop (λ byte. ends_line byte ≡ false) start bytes all))) (cut-none end places)

pub row-none : (row : Row) → All (λ byte. ends_line byte ≡ false) (text_of row) → have_ends (fields_of row) ≡ false
row-none row all = cut-none row.bytes all 0 row.ends

pub cell-none : (cells : List (List ℕ)) (i : ℕ) → i < length cells → have_ends cells ≡ false → list_any ends_line (get_or cells i []) ≡ false
cell-none cells i within none = false_from_ne_true (list_any ends_line (get_or cells i [])) (λ has. both (have_ends cells) none (list_any_at (list_any ends_line) cells i [] within has))
  where
    both : (b : Bool) → b ≡ false → b ≡ true → ⊥
    both true f t = absurd cc
    both false f t = absurd cc
