-- Quantities: whole pieces, up to a greatest one (profile).
use Rattle.std.specs.Prelude.{ℕ, ◌*◌, ◌-◌, if◌then◌else◌, nat_le, Option, Some, None}
use Rattle.std.specs.Int.{div_ceil}
use Rattle.mrp_qty.specs.declared.quantity.TheConstants.{GREATEST_QUANTITY}

-- the greatest quantity, in pieces
abbrev pub greatest_quantity : ℕ
greatest_quantity = GREATEST_QUANTITY

-- a number as a quantity, where it is one
abbrev pub quantity_of : ℕ → Option ℕ
quantity_of n = if nat_le n greatest_quantity then Some n else None

-- the pieces to start so that a quantity remains after a scrap of so many per thousand (Orlicky: scrap allowance;
-- profile: rounded up)
abbrev pub start_of : ℕ → ℕ → ℕ
start_of scrap quantity = div_ceil (quantity * 1000) (1000 - scrap)

-- the least multiple of a size that covers a quantity (Orlicky: fixed order quantity; profile for several lots at once)
abbrev pub multiple_of : ℕ → ℕ → ℕ
multiple_of size quantity = size * div_ceil quantity size
