use Rattle.std.proofs.Common.{◌≡◌, ◌++◌, map, take}
use Rattle.mrp_peg.specs.Rows.{booking_requirement}
use Rattle.mrp_peg.proofs.demand.add_bookings.Given as goal

abbrev pub invariant-loop-booking : goal.invariant-loop-booking
invariant-loop-booking l = l.needs.items ≡ l.initial.needs.items ++ map (booking_requirement l.item) (take l.booking-index l.bookings)
