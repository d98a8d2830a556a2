-- The standing bookings at an entry of the order book (profile).
use Rattle.std.specs.Prelude.{ℕ, List}
use Rattle.mrp_book.specs.declared.booking.Booking.{Booking}

-- the entry's number, the weeks of the horizon, and the standing bookings, in order of their numbers
pub record Snapshot : Type 0 where
  pub front : ℕ
  pub weeks : ℕ
  pub standing : List Booking
