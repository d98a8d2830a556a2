use Rattle.std.proofs.Common.{take}
use Rattle.mrp_page.specs.Pegs.{HasWaits}
use Rattle.mrp_page.proofs.pegs.waits_of_parents.Given as goal

abbrev pub invariant-loop-peg : goal.invariant-loop-peg
invariant-loop-peg l = HasWaits l.waits (take l.peg-index l.pegs)
