use Rattle.std.specs.Prelude.{sum_by}
use Rattle.std.proofs.Common.{ap, arith, refl, take_all}
use Rattle.mrp_book.specs.declared.booking.Booking.{Booking}
use Rattle.mrp_book.proofs.snapshot.is_little.Goals as goal

pub returns : goal.returns
returns c =
    let all = ap (sum_by (λ (b : Booking). b.line.quantity)) (take_all c.loop-booking.booking-index c.args.bookings.now (omega arith)) in
    (λ yes. omega (arith, all, c.loop-booking.invariant.sum, c.loop-booking.invariant.within), λ within. refl)
