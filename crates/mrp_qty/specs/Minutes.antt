-- Standard times: thousandths of a minute, and their texts (profile).
use Rattle.std.specs.Prelude.{ℕ, ◌+◌, ◌/◌, ◌%◌, List, [], ◌∷◌, ◌++◌, decimal}

-- the digit of a number below ten
abbrev pub digit_of : ℕ → ℕ
digit_of n = 48 + n

-- thousandths of a minute as minutes: the whole ones in decimal, a point, and three decimals
abbrev pub minutes_text_of : ℕ → List ℕ
minutes_text_of time =
    decimal (time / 1000) ++ (46 ∷ digit_of (time / 100 % 10) ∷ digit_of (time / 10 % 10) ∷ digit_of (time % 10) ∷ [])
