use Rattle.std.proofs.Common.{◌≡◌, fold, take}
use Rattle.mrp_peg.specs.Walk.{with_told}
use Rattle.mrp_peg.proofs.walking.add_causes.Given as goal

abbrev pub invariant-loop-peg : goal.invariant-loop-peg
invariant-loop-peg l = l.causes.keys ≡ fold with_told l.initial.causes.keys (take l.peg-index l.pegs)
