use Rattle.std.proofs.Common.{◌∙◌}
use Rattle.std.specs.Int.{IsInRange}
use Rattle.std.proofs.Common.{length, sym, subst}
use Rattle.mrp_item.specs.declared.due.Due.{Due}
use Rattle.mrp_peg.proofs.Loops.{less_booked, no_bookings}
use Rattle.mrp_peg.proofs.demand.left_over.Goals as goal

pub loop-booking-init : goal.loop-booking-init
loop-booking-init c = c.in_ok-left.ensures ∙ no_bookings c.args.demand.now

pub loop-booking-preserved : goal.loop-booking-preserved
loop-booking-preserved c =
    let P : Due → Type 0 = λ d. IsInRange 1 (length c.args.demand.now) d.week in
    let within = subst P (sym c.booking-item.is) (c.requires c.loop-booking.booking-index c.booking-item.result c.loop-booking-test.true) in
    less_booked c.args.demand.now c.loop-booking.left.items c.args.bookings.now c.loop-booking.booking-index c.booking-item.result c.from-place.result c.index.result.now c.less.result
    c.loop-booking-test.true c.booking-item.is within c.from-place.ensures c.loop-booking.invariant c.index.ensures c.less.ensures
