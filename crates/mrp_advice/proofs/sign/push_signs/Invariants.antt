use Rattle.std.proofs.Common.{◌≡◌, ◌++◌, length}
use Rattle.std.specs.Prelude.{string_bytes}
use Rattle.mrp_advice.specs.declared.sign.TheConstants.{MOST_SIGNS}
use Rattle.mrp_advice.specs.Shown.{signs}
use Rattle.mrp_advice.proofs.sign.push_signs.Given as goal

abbrev pub invariant-loop-rest : goal.invariant-loop-rest
invariant-loop-rest l = string_bytes l.text ++ signs l.left l.rest ≡ string_bytes l.initial.text ++ signs MOST_SIGNS l.fn.bytes

abbrev pub decreases-loop-rest : goal.decreases-loop-rest
decreases-loop-rest l = length l.rest
