use Rattle.std.proofs.Common.{arith}
use Rattle.mrp_risk.specs.Chains.{peg_at}
use Rattle.mrp_risk.proofs.Added.{risks-more}
use Rattle.mrp_risk.proofs.Answered.{answers-are, mark-inside, risk-inside, risk-small}
use Rattle.mrp_risk.proofs.risk.at_risk.Goals as goal

pub add_peg-requires-clause-order : goal.add_peg-requires-clause-order
add_peg-requires-clause-order c =
    rw c.deref.ensures.value (mark-inside c.args.lateness.now c.args.pegs.now c.in_ok-marks.marks.items c.in_ok-marks.ensures (peg_at c.args.pegs.now c.loop-peg.peg-index).supply)

pub add_peg-requires-clause-orders : goal.add_peg-requires-clause-orders
add_peg-requires-clause-orders c = risk-inside c.args.lateness.now c.args.pegs.now c.in_ok-marks.marks.items c.args.bookings c.loop-peg.peg-index c.loop-peg.risks.items c.in_ok-marks.ensures c.loop-peg.invariant

pub add_peg-requires-clause-room : goal.add_peg-requires-clause-room
add_peg-requires-clause-room c = λ booking. omega (arith, risk-small c.args.lateness.now c.args.pegs.now c.in_ok-marks.marks.items c.args.bookings c.loop-peg.peg-index c.loop-peg.risks.items c.loop-peg.invariant booking)

pub loop-peg-preserved : goal.loop-peg-preserved
loop-peg-preserved c =
    risks-more c.args.lateness.now c.in_ok-marks.marks.items c.args.pegs.now c.args.bookings c.loop-peg.peg-index c.loop-peg.risks.items c.add_peg.new.risks.items c.loop-peg.invariant (omega arith)
    (rw c.deref.ensures.value at c.add_peg.ensures)

pub returns-clause-answers : goal.returns-clause-answers
returns-clause-answers c =
    answers-are c.args.lateness.now c.args.pegs.now c.in_ok-marks.marks.items c.args.bookings c.loop-peg.peg-index c.loop-peg.risks.items c.in_ok-marks.ensures c.loop-peg.invariant (omega arith)
