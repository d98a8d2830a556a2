use Rattle.std.specs.Prelude.{sum_by}
use Rattle.std.proofs.Common.{◌≡◌, ◌≤◌, take}
use Rattle.mrp_qty.specs.Quantity.{greatest_quantity}
use Rattle.mrp_book.specs.declared.booking.Booking.{Booking}
use Rattle.mrp_book.proofs.snapshot.is_little.Given as goal

abbrev pub invariant-loop-booking : goal.invariant-loop-booking
invariant-loop-booking l = record {
  sum : l.pieces ≡ sum_by (λ (b : Booking). b.line.quantity) (take l.booking-index l.bookings);
  within : l.pieces ≤ greatest_quantity;
}
