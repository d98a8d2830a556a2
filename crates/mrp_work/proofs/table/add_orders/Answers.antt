use Rattle.std.proofs.Common.{◌≡◌, ◌∙◌, ◌<◌, ◌++◌, List, Option, ap, arith, length, map, subst, sym, take}
use Rattle.mrp_tables.specs.declared.rows.Operation.{Operation}
use Rattle.mrp_work.specs.Table.{added, found_in}
use Rattle.mrp_work.specs.Work.{all_work, work_of, work_of_order}
use Rattle.mrp_work.specs.declared.order.Work.{Work}
use Rattle.mrp_work.specs.declared.order.WorkOrder.{WorkOrder}
use Rattle.mrp_work.proofs.Added.{added-append, orders-more}
use Rattle.mrp_work.proofs.table.add_orders.Goals as goal

pub loop-order-preserved : goal.loop-order-preserved
loop-order-preserved c = λ centre week.
    let orders = c.args.orders.now in
    let routings = c.args.routings.now in
    let order = c.order-item.result in
    let k = c.loop-order.order-index in
    let inside : c.loop-order.order-index < length c.args.orders.now = omega arith in
    let known : c.order-item.result.item < length c.args.groups.now = subst (λ (o : WorkOrder). o.item < length c.args.groups.now) (sym c.order-item.is) (c.requires.size k order inside) in
    let own : map (work_of c.order-item.result) c.group.result.now ≡ work_of_order c.args.routings.now c.order-item.result = ap (map (work_of order)) (c.group.ensures ∙ c.requires.groups order.item known) in
    c.in_ok-add_order.ensures centre week
    ∙ ap (λ (found : Option (List Work)). added found centre week (map (work_of order) c.group.result.now)) (c.loop-order.invariant centre week)
    ∙ added-append (found_in c.args.found.now centre week) centre week (all_work routings (take k orders)) (map (work_of order) c.group.result.now)
    ∙ ap (λ (works : List Work). added (found_in c.args.found.now centre week) centre week works) (ap (λ (works : List Work). all_work routings (take k orders) ++ works) own ∙ orders-more routings orders k order order inside c.order-item.is)
