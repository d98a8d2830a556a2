-- A number's digits, one at a time.
use Rattle.std.proofs.Common.{◌≡◌, ℕ, ◌+◌, ◌*◌, ◌-◌, ◌<◌, ◌≤◌, List, [], ◌∷◌, length, get_or, drop, sym, ap, ◌∙◌, arith, add-one, drop-cons}
use Rattle.mrp_qty.specs.Digits.{value_after}

-- a number does not fall with more digits
pub value_after-least : (before : ℕ) (digits : List ℕ) → before ≤ value_after before digits
value_after-least before [] = omega arith
value_after-least before (d ∷ digits) = omega (arith, value_after-least (before * 10 + (d - 48)) digits)

-- the next digit
pub value_after-next : (before i : ℕ) (digits : List ℕ) → i < length digits
    → value_after before (drop i digits) ≡ value_after (before * 10 + (get_or digits i 0 - 48)) (drop (i + 1) digits)
value_after-next before i digits lt =
    ap (value_after before) (drop-cons digits i 0 lt) ∙ ap (λ k. value_after (before * 10 + (get_or digits i 0 - 48)) (drop k digits)) (sym (add-one i))
