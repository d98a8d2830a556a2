use Rattle.std.proofs.Common.{◌≡◌, take}
use Rattle.mrp_survey.specs.Loops.{places_along}
use Rattle.mrp_survey.proofs.finding_loops.places_along.Given as goal

abbrev pub invariant-loop-line : goal.invariant-loop-line
invariant-loop-line l = l.places.items ≡ places_along l.item (take l.line-index l.lines)
