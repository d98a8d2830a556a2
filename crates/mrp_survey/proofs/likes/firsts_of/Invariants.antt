use Rattle.std.proofs.Common.{take}
use Rattle.mrp_survey.specs.Likes.{HasFirsts}
use Rattle.mrp_survey.proofs.likes.firsts_of.Given as goal

abbrev pub invariant-loop-place : goal.invariant-loop-place
invariant-loop-place l = HasFirsts (take l.place l.known) l.firsts.entries
