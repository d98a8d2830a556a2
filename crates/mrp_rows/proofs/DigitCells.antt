-- What digits in a cell are read as.
use Rattle.std.proofs.Common.{◌≡◌, ◌<◌, ◌≤◌, ◌^◌, ◌++◌, ◌∙◌, ℕ, zero, suc, Bool, true, false, List, [], ◌∷◌, Ok, Err, length, replicate, refl, arith, decimal, nat_le, cond}
use Rattle.std.proofs.lemmas.Bool.{le-leb, leb-true}
use Rattle.std.proofs.lemmas.Fmt.{decimal_is_IsNumeral, digits_decimal, digits_value-decimal}
use Rattle.std.specs.Char.{is_ascii_digit}
use Rattle.std.specs.List.{list_all}
use Rattle.mrp_qty.specs.Digits.{value_of}
use Rattle.mrp_qty.proofs.Numerals.{numerals}
use Rattle.mrp_qty.specs.declared.number.NumberFault.TheVariants.{TooLarge}
use Rattle.mrp_rows.specs.Cell.{at_least, number_cell}

-- digits of a number within limits
digits-within : (n least most : ℕ) (ds : List ℕ) → 0 < length ds → list_all is_ascii_digit ds ≡ true → value_of ds ≡ n → least ≤ n → n ≤ most → number_cell least most ds ≡ Ok n
digits-within n least most [] some d v low high = absurd (omega arith)
digits-within n least most (b ∷ bs) some d v low high = rw (d, v, le-leb n most high, le-leb least n low) refl

pub number_cell-decimal : (n least most : ℕ) → n < 2 ^ 64 → least ≤ n → n ≤ most → number_cell least most (decimal n) ≡ Ok n
number_cell-decimal n least most small low high =
    digits-within n least most (decimal n) (decimal_is_IsNumeral n small).0.0 (digits_decimal numerals n small) (digits_value-decimal numerals n small) low high

-- a leading zero
zero-first : (least most byte : ℕ) (bytes : List ℕ) → number_cell least most (48 ∷ byte ∷ bytes) ≡ number_cell least most (byte ∷ bytes)
zero-first least most byte bytes = refl

pub number_cell-zeros : (zeros least most byte : ℕ) (bytes : List ℕ) → number_cell least most (replicate zeros 48 ++ (byte ∷ bytes)) ≡ number_cell least most (byte ∷ bytes)
number_cell-zeros zero least most byte bytes = refl
number_cell-zeros (suc zero) least most byte bytes = zero-first least most byte bytes
number_cell-zeros (suc (suc zeros)) least most byte bytes =
    zero-first least most 48 (replicate zeros 48 ++ (byte ∷ bytes)) ∙ number_cell-zeros (suc zeros) least most byte bytes

-- what was read within limits
pub at_least-up_to : (n least most value : ℕ) → at_least least (cond (nat_le value most) (Ok value) (Err TooLarge)) ≡ Ok n → (value ≡ n) × (least ≤ n) × (n ≤ most)
at_least-up_to n least most value e = by (nat_le value most) refl
  where
    ok-is : (a b : ℕ) → at_least least (Ok a) ≡ Ok b → (b_le : Bool) → nat_le least a ≡ b_le → (a ≡ b) × (least ≤ b)
    ok-is a b h true low = let e2 : Ok a ≡ Ok b = rw low at h in let same : a ≡ b = cc in (same, rw (← same) (leb-true least a low))
    ok-is a b h false low = absurd (let e2 = rw low at h in cc)

    by : (under : Bool) → nat_le value most ≡ under → (value ≡ n) × (least ≤ n) × (n ≤ most)
    by true high =
        let (same, low) = ok-is value n (rw high at e) (nat_le least value) refl in
        (same, low, rw (← same) (leb-true value most high))
    by false high = absurd (let h = rw high at e in cc)

pub number_cell-digits : (n least most : ℕ) (cell : List ℕ) → number_cell least most cell ≡ Ok n → (0 < length cell) × (list_all is_ascii_digit cell ≡ true) × (value_of cell ≡ n) × (least ≤ n) × (n ≤ most)
number_cell-digits n least most [] e = absurd cc
number_cell-digits n least most (b ∷ bs) e = by (list_all is_ascii_digit (b ∷ bs)) refl
  where
    by : (d : Bool) → list_all is_ascii_digit (b ∷ bs) ≡ d → (0 < length (b ∷ bs)) × (list_all is_ascii_digit (b ∷ bs) ≡ true) × (value_of (b ∷ bs) ≡ n) × (least ≤ n) × (n ≤ most)
    by true d = let (v, low, high) = at_least-up_to n least most (value_of (b ∷ bs)) (rw d at e) in (omega arith, d, v, low, high)
    by false d = absurd (let h = rw d at e in cc)
