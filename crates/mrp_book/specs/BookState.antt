-- The state of an order book between two calls (profile).
use Rattle.std.specs.Prelude.{ℕ, List}
use Rattle.mrp_master.specs.Supply.{Supply}
use Rattle.mrp_book.specs.declared.booking.Booking.{Booking}

-- the supply that is promised from, the number of entries, and the standing bookings, in order of their numbers
pub record BookState : Type 0 where
  pub supply : Supply
  pub entries : ℕ
  pub standing : List Booking
