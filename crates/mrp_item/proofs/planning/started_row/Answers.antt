use Rattle.std.proofs.Common.{◌∙◌, length, take, ap}
use Rattle.std.proofs.lemmas.Result.{err_from_is_err_and}
use Rattle.mrp_phase.proofs.WeekRows.{length-row}
use Rattle.mrp_item.specs.Orders.{started_in}
use Rattle.mrp_item.proofs.StartedRows.{started_more, started_none, started_past}
use Rattle.mrp_item.proofs.planning.started_row.Goals as goal

pub loop-order-init : goal.loop-order-init
loop-order-init c = c.in_ok-started.ensures ∙ started_none c.args.weeks

pub add_in-requires : goal.add_in-requires
add_in-requires c = ap length c.loop-order.invariant ∙ length-row (started_in (take c.loop-order.order-index c.args.orders.now)) c.args.weeks

pub returns-in_err-or_over-clause-over : goal.returns-in_err-or_over-clause-over
returns-in_err-or_over-clause-over c =
    let p = err_from_is_err_and c.from_residual-in_err-or_over.result c.from_residual-in_err-or_over.ensures.1 in
    let none = rw c.in_err-or_over.ensures.found at c.add_in.ensures.none in
    rw (p.1, p.2) (λ _. started_past c.args.orders.now c.loop-order.order-index c.order-item.result c.loop-order.started c.args.weeks c.loop-order-test.true c.order-item.is c.loop-order.invariant none.0 none.1 none.2)

pub loop-order-preserved : goal.loop-order-preserved
loop-order-preserved c =
    (rw c.in_ok-or_over.ensures.found at c.add_in.ensures.added)
    ∙ started_more c.args.orders.now c.loop-order.order-index c.order-item.result c.loop-order.started c.args.weeks c.loop-order-test.true c.order-item.is c.loop-order.invariant
