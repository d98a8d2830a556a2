-- Texts of digits are std's numerals.
use Rattle.std.proofs.Common.{◌≡◌, ◌≢◌, ℕ, ◌<◌, ◌≤◌, ◌^◌, true, List, [], ◌∷◌, length, refl, ap, ◌∙◌, arith, Ok, rules}
use Rattle.std.specs.Prelude.{decimal}
use Rattle.std.specs.Char.{is_ascii_digit}
use Rattle.std.specs.List.{list_all}
use Rattle.std.proofs.lemmas.Bool.{le-leb}
use Rattle.std.proofs.lemmas.Str.Parse.{IsNumeralModel, numerals_by_fold}
use Rattle.std.proofs.lemmas.Fmt.{decimal_nonempty, digits_decimal, digits_value-decimal}
use Rattle.mrp_qty.specs.Digits.{value_after, value_of, value_up_to, number_of}

abbrev pub AreDigits : List ℕ → Type 0
AreDigits text = list_all is_ascii_digit text ≡ true

pub numerals : IsNumeralModel AreDigits value_of
numerals = numerals_by_fold AreDigits (search rules) value_after (search rules)

reads : (max : ℕ) (text : List ℕ) → AreDigits text → text ≢ [] → number_of max text ≡ value_up_to max text
reads max [] h ne = absurd (ne refl)
reads max (b ∷ bs) h ne = rw h refl

pub decimal-read : (max number : ℕ) → number ≤ max → number < 2 ^ 64 → number_of max (decimal number) ≡ Ok number
decimal-read max number within fits =
    let v : value_of (decimal number) ≡ number = digits_value-decimal numerals number fits in
    let some : decimal number ≢ [] = λ e. let l : length (decimal number) ≡ 0 = ap length e in omega (arith, decimal_nonempty number fits) in
    let m = le-leb number max within in
    reads max (decimal number) (digits_decimal numerals number fits) some ∙ rw (v, m) refl

pub leading_zero-read : (max : ℕ) (text : List ℕ) → text ≢ [] → number_of max (48 ∷ text) ≡ number_of max text
leading_zero-read max [] ne = absurd (ne refl)
leading_zero-read max (b ∷ bs) ne = refl
