use Rattle.std.proofs.Common.{◌≡◌}
use Rattle.low_tests.proofs.tests.turns.add_ones.Given as goal

abbrev pub invariant-loop : goal.invariant-loop
invariant-loop g l = record { turn : l.seat.turn ≡ l.initial.seat.turn; number : l.seat.number ≡ l.initial.seat.number }
