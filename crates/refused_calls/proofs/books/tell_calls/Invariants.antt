use Rattle.std.proofs.Common.{◌≡◌}
use Rattle.refused_calls.proofs.books.tell_calls.Given as goal

abbrev pub invariant-loop-asked : goal.invariant-loop-asked
invariant-loop-asked g l = l.book.supply ≡ l.initial.book.supply
