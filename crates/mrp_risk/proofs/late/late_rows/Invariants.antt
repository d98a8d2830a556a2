use Rattle.mrp_risk.proofs.LateRows.{AreRisingTo}
use Rattle.mrp_risk.proofs.late.late_rows.Given as goal

abbrev pub invariant-loop-order : goal.invariant-loop-order
invariant-loop-order l = AreRisingTo l.lateness l.order l.rows.items
