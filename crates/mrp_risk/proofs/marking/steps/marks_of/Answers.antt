use Rattle.std.proofs.Common.{sym, subst, arith}
use Rattle.mrp_risk.specs.Late.{AreLateOrders}
use Rattle.mrp_risk.proofs.Marked.{marks-are, spread-more}
use Rattle.mrp_risk.proofs.marking.steps.marks_of.Goals as goal

pub loop-row-preserved : goal.loop-row-preserved
loop-row-preserved c =
    let late = subst (AreLateOrders c.args.lateness.now) (sym c.deref-row-items.ensures.value) c.in_ok-late.ensures in
    let more = c.in_ok-mark_from.ensures in
    spread-more c.args.lateness.now c.args.pegs.now c.deref-row-items.result.now late c.loop-row.row-index (omega arith) c.loop-row.marking c.loop-row.invariant c.mark_from.new.self more.queue more.all more.grows more.late

pub returns : goal.returns
returns c =
    let late = subst (AreLateOrders c.args.lateness.now) (sym c.deref-row-items.ensures.value) c.in_ok-late.ensures in
    marks-are c.args.lateness.now c.args.pegs.now c.deref-row-items.result.now c.loop-row.row-index c.loop-row.marking late (omega arith) c.loop-row.invariant
