use Rattle.std.proofs.Common.{◌≡◌, ◌++◌, ◌-◌, take, replicate}
use Rattle.mrp_rows.specs.declared.name.TheConstants.{LONGEST_NAME}
use Rattle.mrp_survey.specs.Likes.{lowered}
use Rattle.mrp_survey.proofs.likes.lowered.Given as goal

abbrev pub invariant-loop-place : goal.invariant-loop-place
invariant-loop-place l = l.bytes ≡ take l.place (lowered l.text) ++ replicate (LONGEST_NAME - l.place) 0
