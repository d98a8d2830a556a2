use Rattle.std.proofs.Common.{◌≡◌, fold, take}
use Rattle.mrp_peg.specs.Walk.{with_known}
use Rattle.mrp_peg.proofs.tracing.add_known.Given as goal

abbrev pub invariant-loop-peg : goal.invariant-loop-peg
invariant-loop-peg l = l.found.keys ≡ fold (with_known l.causes.keys) l.initial.found.keys (take l.peg-index l.pegs)
