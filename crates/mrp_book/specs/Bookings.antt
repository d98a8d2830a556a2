-- Bookings, as quantities due.
use Rattle.std.specs.Prelude.{ℕ, ◌≤◌, ◌<◌, List, AllPairs, map}
use Rattle.mrp_qty.specs.Quantity.{greatest_quantity}
use Rattle.mrp_master.specs.declared.line.Line.{Line}
use Rattle.mrp_master.specs.AtpRow.{due_in}
use Rattle.mrp_book.specs.declared.booking.Booking.{Booking}

-- bookings, as quantities due
abbrev pub lines_of : List Booking → List Line
lines_of bookings = map (λ b. b.line) bookings

-- in each week of a horizon, no more of an item is due than the greatest quantity
abbrev pub AreLittle : ℕ → List Booking → Type 0
AreLittle weeks bookings = (item week : ℕ) → 1 ≤ week → week ≤ weeks → due_in item week (lines_of bookings) ≤ greatest_quantity

-- each number is greater than those before it
abbrev pub AreRising : List Booking → Type 0
AreRising bookings = AllPairs (λ a b. a.number < b.number) bookings
