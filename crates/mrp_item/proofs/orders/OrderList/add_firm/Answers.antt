use Rattle.std.proofs.lemmas.Result.{err_from_is_err_and}
use Rattle.mrp_item.specs.declared.order.OrderKind.TheVariants.{Firm}
use Rattle.mrp_item.specs.Orders.{order_of}
use Rattle.mrp_item.proofs.Starts.{firm_past}
use Rattle.mrp_item.proofs.orders.OrderList.add_firm.Goals as goal

pub returns-in_err-add-clause-over : goal.returns-in_err-add-clause-over
returns-in_err-add-clause-over c =
    let p = err_from_is_err_and c.from_residual.result c.from_residual.ensures.1 in
    rw (p.1, p.2) (λ over.
    firm_past (order_of c.args.terms.now.tables.now c.args.terms.now.item.now Firm c.args.week) c.args.week c.args.dues.now c.loop-due.due-index c.due-item.result c.args.self.now
    c.loop-due-test.true c.due-item.is c.if-due-week.true (rw c.loop-due.invariant at (c.in_err-add.ensures.over over)))
