use Rattle.mrp_risk.proofs.Marked.{AreSpread}
use Rattle.mrp_risk.proofs.marking.steps.marks_of.Given as goal

abbrev pub invariant-loop-row : goal.invariant-loop-row
invariant-loop-row l = AreSpread l.lateness l.pegs l.row-items l.row-index l.marking
