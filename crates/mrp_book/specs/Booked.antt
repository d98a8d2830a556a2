-- Bookings of a shop.
use Rattle.std.specs.Prelude.{List, All}
use Rattle.mrp_book.specs.declared.booking.Booking.{Booking}
use Rattle.mrp_master.specs.Lines.{IsLine}
use Rattle.mrp_master.specs.Supply.{Supply, IsCovered}
use Rattle.mrp_book.specs.Bookings.{AreRising, lines_of}

-- each booking is of a master item, in a week of the horizon, of pieces that can be booked, together they are covered, and
-- their numbers rise
pub record AreBooked (s : Supply) (bookings : List Booking) : Type 0 where
  pub lines : All (λ b. IsLine s b.line) bookings
  pub covered : IsCovered s (lines_of bookings)
  pub rising : AreRising bookings
