use Rattle.std.proofs.Common.{◌≡◌}
use Rattle.refused_calls.proofs.books.tell_replies.Given as goal

abbrev pub invariant-loop-asked : goal.invariant-loop-asked
invariant-loop-asked g l = l.desk.turn ≡ l.initial.desk.turn
