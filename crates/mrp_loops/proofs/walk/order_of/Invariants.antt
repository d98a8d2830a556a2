use Rattle.std.proofs.Common.{length}
use Rattle.mrp_loops.specs.Walk.{IsWalk}
use Rattle.mrp_loops.proofs.walk.order_of.Given as goal

abbrev pub invariant-loop-item : goal.invariant-loop-item
invariant-loop-item l = IsWalk l.count (length l.up.lines.items) l.walk
