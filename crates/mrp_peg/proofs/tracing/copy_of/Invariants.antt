use Rattle.std.proofs.Common.{◌≡◌, take}
use Rattle.mrp_peg.proofs.tracing.copy_of.Given as goal

abbrev pub invariant-loop-cause : goal.invariant-loop-cause
invariant-loop-cause l = l.copy.items ≡ take l.cause-index l.causes
