use Rattle.std.proofs.Common.{◌≡◌}
use Rattle.low_tests.proofs.tests.turns.are_answered.Given as goal

abbrev pub invariant-loop-call : goal.invariant-loop-call
invariant-loop-call g l = l.seat.turn ≡ l.initial.seat.turn
