use Rattle.std.proofs.Common.{◌≡◌, ◌++◌, length}
use Rattle.mrp_peg.specs.Left.{pegs_left}
use Rattle.mrp_peg.specs.Pegging.{pegs_of}
use Rattle.mrp_peg.proofs.pegging.item_pegs.Given as goal

abbrev pub invariant-loop-pegs : goal.invariant-loop-pegs
invariant-loop-pegs l = l.pegs.items ++ pegs_left l.walk ≡ pegs_of l.plan.inputs l.item

abbrev pub decreases-loop-pegs : goal.decreases-loop-pegs
decreases-loop-pegs l = length (pegs_left l.walk)
