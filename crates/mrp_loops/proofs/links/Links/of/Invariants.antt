use Rattle.mrp_loops.specs.Links.{AreListsTo}
use Rattle.mrp_loops.proofs.links.Links.of.Given as goal

abbrev pub invariant-loop-place : goal.invariant-loop-place
invariant-loop-place l = AreListsTo l.count l.fn.lines.items l.place l.last.items l.previous.items
