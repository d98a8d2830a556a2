use Rattle.std.proofs.Common.{◌≡◌}
use Rattle.mrp_carry.proofs.standing.bookings_of.Given as goal

abbrev pub invariant-loop-booking : goal.invariant-loop-booking
invariant-loop-booking l = l.bookings.items ≡ l.yielded
