use Rattle.std.proofs.Common.{◌≡◌}
use Rattle.refused_calls.proofs.books.tell_sums.Given as goal

abbrev pub invariant-loop : goal.invariant-loop
invariant-loop g l = l.seat.turn ≡ l.initial.seat.turn
