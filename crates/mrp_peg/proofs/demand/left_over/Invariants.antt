use Rattle.std.proofs.Common.{◌≡◌, length, take}
use Rattle.mrp_phase.specs.Weeks.{row}
use Rattle.mrp_peg.specs.Rows.{beyond}
use Rattle.mrp_peg.proofs.demand.left_over.Given as goal

abbrev pub invariant-loop-booking : goal.invariant-loop-booking
invariant-loop-booking l = l.left.items ≡ row (length l.demand) (beyond l.demand (take l.booking-index l.bookings))
