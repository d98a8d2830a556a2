use Rattle.std.proofs.Common.{◌∙◌, sym, Bool}
use Rattle.std.specs.List.{list_any}
use Rattle.mrp_rows.specs.declared.faults.TheConstants as faults
use Rattle.mrp_rows.specs.Cell.{fault_at}
use Rattle.mrp_tables.specs.declared.receipts.OpenOrder.{OpenOrder}
use Rattle.mrp_tables.specs.declared.rows.Receipt.{Receipt}
use Rattle.mrp_tables.specs.Receipts.{order_cells, receipt_placed, same_order}
use Rattle.mrp_tables.proofs.Fresh.{placed, repeated, still_new}
use Rattle.mrp_tables.proofs.receipts.receipt_of.Goals as goal

pub returns-then-contains-clause-cells : goal.returns-then-contains-clause-cells
returns-then-contains-clause-cells c =
    let read = sym c.in_ok-order.ensures.cells in
    let found = sym c.contains.ensures ∙ c.if-contains.true in
    let seen : OpenOrder → Bool = λ o. list_any (same_order (o.item, o.order)) c.args.seen.now.keys in
    rw c.fault.ensures (sym (repeated (order_cells c.args.items.now c.args.row.now) seen (fault_at c.args.row.now faults.REPEATED)
    (receipt_placed c.args.calendar.now c.args.items.now c.args.row.now) c.in_ok-order.order read found))

pub returns-clause-cells : goal.returns-clause-cells
returns-clause-cells c =
    let read = sym c.in_ok-order.ensures.cells in
    let new = sym c.contains.ensures ∙ c.if-contains.false in
    let seen : OpenOrder → Bool = λ o. list_any (same_order (o.item, o.order)) c.args.seen.now.keys in
    c.receipt_placed.ensures.placed ∙ sym (placed (order_cells c.args.items.now c.args.row.now) seen (fault_at c.args.row.now faults.REPEATED)
    (receipt_placed c.args.calendar.now c.args.items.now c.args.row.now) c.in_ok-order.order read new)

pub returns-clause-fresh : goal.returns-clause-fresh
returns-clause-fresh c =
    let new = sym c.contains.ensures ∙ c.if-contains.false in
    still_new same_order (λ (r : Receipt). r.item) (λ (r : Receipt). r.order) c.args.seen.now.keys c.in_ok-order.order.item c.in_ok-order.order.order
    new c.receipt_placed.result c.receipt_placed.ensures.item c.receipt_placed.ensures.order
