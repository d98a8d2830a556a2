-- The inputs as contracts see them, and what holds of their fields.
use Rattle.std.specs.Prelude.{ℕ, ◌≡◌, ◌<◌, length, slice_index}
use Rattle.mrp_master.specs.Supply.{supply_of}
use Rattle.mrp_book.specs.Booked.{AreBooked}
use Rattle.mrp_item.specs.declared.inputs.Inputs.TheInside.{Inside}
use Rattle.mrp_item.specs.Inputs.{Inputs, count}
use Rattle.mrp_bill.specs.Grouped.{listed}
use Rattle.mrp_item.specs.Dues.{booking_dues}
use Rattle.mrp_item.specs.Plan.{IsRanked, HasParents}

abbrev pub inputs_view : Inside → Inputs
inputs_view a = record { tables = a.rows.value.tables; front = a.snapshot.front; standing = a.snapshot.standing }

-- the bookings of each item, and that the standing bookings are such as a book of the shop may have
pub record KeepsRows (a : Inside) : Type 0 where
  pub bookings_size : length a.bookings ≡ count (inputs_view a)
  pub bookings : (i : ℕ) → i < count (inputs_view a) → listed a.bookings i ≡ booking_dues a.snapshot.standing i
  pub ranked : IsRanked (inputs_view a) (slice_index a.rows.value.codes)
  pub parents : HasParents (inputs_view a)
  pub booked : AreBooked (supply_of a.rows.value.tables) a.snapshot.standing
