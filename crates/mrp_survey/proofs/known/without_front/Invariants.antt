use Rattle.std.proofs.Common.{◌≡◌, length}
use Rattle.mrp_survey.specs.Known.{without_front}
use Rattle.mrp_survey.proofs.known.without_front.Given as goal

abbrev pub invariant-loop-rest : goal.invariant-loop-rest
invariant-loop-rest l = without_front l.fn.text ≡ without_front l.rest

abbrev pub decreases-loop-rest : goal.decreases-loop-rest
decreases-loop-rest l = length l.rest
