use Rattle.mrp_risk.specs.Adding.{AreRisksTo}
use Rattle.mrp_risk.proofs.risk.at_risk.Given as goal

abbrev pub invariant-loop-peg : goal.invariant-loop-peg
invariant-loop-peg l = AreRisksTo l.lateness l.marks.items l.pegs l.bookings l.peg-index l.risks.items
