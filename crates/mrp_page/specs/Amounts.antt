-- The numbers that texts stand for.
use Rattle.std.specs.Prelude.{ℕ, ◌+◌, ◌*◌, ◌-◌, min, List, if◌then◌else◌}
use Rattle.std.specs.Char.{is_ascii_digit}
use Rattle.std.specs.List.{filter}
use Rattle.mrp_qty.specs.Digits.{value_of}
use Rattle.mrp_page.specs.declared.limits.TheConstants.{MOST_AMOUNT}

-- the number that the digits of a text stand for; minutes with three decimals stand for their thousandths. From a limit on
-- numbers count as equal
abbrev pub amount : List ℕ → ℕ
amount text = min (value_of (filter is_ascii_digit text)) MOST_AMOUNT

-- a number with the digit that a byte is, if it is one
abbrev pub with_digit : ℕ → ℕ → ℕ
with_digit number byte = if is_ascii_digit byte then min (number * 10 + (byte - 48)) MOST_AMOUNT else number
