-- Decimal digits and the number that they stand for.
use Rattle.std.specs.Prelude.{ℕ, ◌+◌, ◌*◌, ◌-◌, nat_le, if◌then◌else◌, List, [], ◌∷◌, Result, Ok, Err}
use Rattle.std.specs.Char.{is_ascii_digit}
use Rattle.std.specs.List.{list_all}
use Rattle.mrp_qty.specs.declared.number.NumberFault.{NumberFault}
use Rattle.mrp_qty.specs.declared.number.NumberFault.TheVariants.{Empty, NotDigits, TooLarge}

-- the number that digits stand for, after those of a number
abbrev pub value_after : ℕ → List ℕ → ℕ
value_after before [] = before
value_after before (digit ∷ digits) = value_after (before * 10 + (digit - 48)) digits

-- the number that digits stand for
abbrev pub value_of : List ℕ → ℕ
value_of digits = value_after 0 digits

-- that number, where it is no greater than this (profile)
abbrev pub value_up_to : ℕ → List ℕ → Result ℕ NumberFault
value_up_to max digits = if nat_le (value_of digits) max then Ok (value_of digits) else Err TooLarge

-- the number that a text stands for, up to a greatest one: digits alone, leading zeros among them (profile)
abbrev pub number_of : ℕ → List ℕ → Result ℕ NumberFault
number_of max [] = Err Empty
number_of max (byte ∷ bytes) = if list_all is_ascii_digit (byte ∷ bytes) then value_up_to max (byte ∷ bytes) else Err NotDigits
