use Rattle.mrp_risk.specs.PegLists.{AreListsTo}
use Rattle.mrp_risk.proofs.lists.PegLists.of.Given as goal

abbrev pub invariant-loop-place : goal.invariant-loop-place
invariant-loop-place l = AreListsTo l.orders l.pegs l.place l.last.items l.previous.items
