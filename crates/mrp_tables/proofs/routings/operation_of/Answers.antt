use Rattle.std.proofs.Common.{◌∙◌, sym, Bool}
use Rattle.std.specs.List.{list_any}
use Rattle.mrp_rows.specs.declared.faults.TheConstants as faults
use Rattle.mrp_rows.specs.Cell.{fault_at}
use Rattle.mrp_tables.specs.declared.routings.RoutingLine.{RoutingLine}
use Rattle.mrp_tables.specs.declared.rows.Operation.{Operation}
use Rattle.mrp_tables.specs.Routings.{routing_cells, routing_placed, same_operation}
use Rattle.mrp_tables.proofs.Fresh.{placed, repeated, still_new}
use Rattle.mrp_tables.proofs.routings.operation_of.Goals as goal

pub returns-then-contains-clause-cells : goal.returns-then-contains-clause-cells
returns-then-contains-clause-cells c =
    let read = sym c.in_ok-line.ensures.cells in
    let found = sym c.contains.ensures ∙ c.if-contains.true in
    let seen : RoutingLine → Bool = λ line. list_any (same_operation (line.item, line.operation)) c.args.seen.now.keys in
    rw c.fault.ensures (sym (repeated (routing_cells c.args.items.now c.args.row.now) seen (fault_at c.args.row.now faults.REPEATED)
    (routing_placed c.args.centres.now c.args.row.now) c.in_ok-line.line read found))

pub returns-clause-cells : goal.returns-clause-cells
returns-clause-cells c =
    let read = sym c.in_ok-line.ensures.cells in
    let new = sym c.contains.ensures ∙ c.if-contains.false in
    let seen : RoutingLine → Bool = λ line. list_any (same_operation (line.item, line.operation)) c.args.seen.now.keys in
    c.routing_placed.ensures.placed ∙ sym (placed (routing_cells c.args.items.now c.args.row.now) seen (fault_at c.args.row.now faults.REPEATED)
    (routing_placed c.args.centres.now c.args.row.now) c.in_ok-line.line read new)

pub returns-clause-fresh : goal.returns-clause-fresh
returns-clause-fresh c =
    let new = sym c.contains.ensures ∙ c.if-contains.false in
    still_new same_operation (λ (o : Operation). o.item) (λ (o : Operation). o.operation) c.args.seen.now.keys c.in_ok-line.line.item c.in_ok-line.line.operation
    new c.routing_placed.result c.routing_placed.ensures.item c.routing_placed.ensures.number
