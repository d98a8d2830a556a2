-- The digits of a text of minutes are its thousandths.
use Rattle.std.proofs.Common.{◌≡◌, ℕ, ◌+◌, ◌-◌, ◌*◌, ◌/◌, ◌%◌, ◌<◌, ◌≤◌, ◌^◌, true, List, [], ◌∷◌, ◌++◌, refl, arith}
use Rattle.std.specs.Prelude.{decimal}
use Rattle.std.specs.Char.{is_ascii_digit}
use Rattle.std.specs.List.{filter}
use Rattle.std.proofs.lemmas.Bool.{le-leb}
use Rattle.std.proofs.lemmas.Fmt.{decimal_by_steps_wide}
use Rattle.std.proofs.lemmas.List.Elements.{filter-append}
use Rattle.mrp_qty.specs.Digits.{value_after, value_of}
use Rattle.mrp_qty.specs.Minutes.{minutes_text_of}

value_after-append : (before : ℕ) (xs ys : List ℕ) → value_after before (xs ++ ys) ≡ value_after (value_after before xs) ys
value_after-append before [] ys = refl
value_after-append before (x ∷ xs) ys = value_after-append (before * 10 + (x - 48)) xs ys

is_digit : (n : ℕ) → n < 10 → is_ascii_digit (48 + n) ≡ true
is_digit n h = rw (le-leb 48 (48 + n) (omega arith), le-leb (48 + n) 57 (omega arith)) refl

-- a number's digits, one more at a time
digits-one : (n : ℕ) → n < 10 → value_of (filter is_ascii_digit ((48 + n) ∷ [])) ≡ n
digits-one n h = rw (is_digit n h) (omega arith)

digits-more : (n : ℕ) (digits : List ℕ) → 10 ≤ n → value_of (filter is_ascii_digit digits) ≡ n / 10
    → value_of (filter is_ascii_digit (digits ++ ((48 + n % 10) ∷ []))) ≡ n
digits-more n digits h is =
    rw (filter-append is_ascii_digit digits ((48 + n % 10) ∷ []), is_digit (n % 10) (omega arith), value_after-append 0 (filter is_ascii_digit digits) ((48 + n % 10) ∷ []), is)
    (omega arith)

digits-decimal : (n : ℕ) → n < 10 ^ 64 → value_of (filter is_ascii_digit (decimal n)) ≡ n
digits-decimal n h = decimal_by_steps_wide (λ m ds. value_of (filter is_ascii_digit ds) ≡ m) digits-one digits-more n h

pub minutes_text-read : (time : ℕ) → time < 10 ^ 64 → value_of (filter is_ascii_digit (minutes_text_of time)) ≡ time
minutes_text-read time h =
    let decimals = 46 ∷ (48 + time / 100 % 10) ∷ (48 + time / 10 % 10) ∷ (48 + time % 10) ∷ [] in
    let whole : value_of (filter is_ascii_digit (decimal (time / 1000))) ≡ time / 1000 = digits-decimal (time / 1000) (omega arith) in
    rw (filter-append is_ascii_digit (decimal (time / 1000)) decimals, is_digit (time / 100 % 10) (omega arith), is_digit (time / 10 % 10) (omega arith), is_digit (time % 10) (omega arith), value_after-append 0 (filter is_ascii_digit (decimal (time / 1000))) _, whole)
    (omega arith)
