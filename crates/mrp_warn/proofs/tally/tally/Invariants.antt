use Rattle.mrp_warn.proofs.Tallied.{AreCounted}
use Rattle.mrp_warn.proofs.tally.tally.Given as goal

abbrev pub invariant-loop-place : goal.invariant-loop-place
invariant-loop-place l = AreCounted l.named l.count l.place-index l.times.items
