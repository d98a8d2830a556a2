use Rattle.std.proofs.Common.{◌≡◌, map, take}
use Rattle.mrp_survey.specs.Loops.{loop_told}
use Rattle.mrp_survey.proofs.finding_loops.loops_among.Given as goal

abbrev pub invariant-loop-own : goal.invariant-loop-own
invariant-loop-own l = l.found.items ≡ map (loop_told l.items l.sheet l.lines) (take l.own-index l.own-items)
