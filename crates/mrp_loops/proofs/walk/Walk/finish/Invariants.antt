use Rattle.std.proofs.Common.{length}
use Rattle.mrp_loops.specs.Walk.{IsWalk, to_walk}
use Rattle.mrp_loops.proofs.walk.Walk.finish.Given as goal

abbrev pub invariant-loop-item : goal.invariant-loop-item
invariant-loop-item l = IsWalk l.count (length l.links.lines.items) l.self

abbrev pub decreases-loop-item : goal.decreases-loop-item
decreases-loop-item l = to_walk l.self
