use Rattle.mrp_loops.specs.Search.{far_at}
use Rattle.mrp_loops.specs.Way.{IsWayTo}
use Rattle.mrp_loops.proofs.Shortest.{steps_in}
use Rattle.mrp_loops.proofs.way.way_on.Given as goal

abbrev pub invariant-loop-at : goal.invariant-loop-at
invariant-loop-at l = IsWayTo l.lines l.far l.item l.way.items l.at

abbrev pub decreases-loop-at : goal.decreases-loop-at
decreases-loop-at l = steps_in (far_at l.far l.at)
