use Rattle.std.proofs.Common.{◌∙◌, ◌<◌, ◌^◌, List, length, subst, sym, ap, arith}
use Rattle.mrp_item.specs.Inputs.{Inputs, horizon}
use Rattle.mrp_item.specs.Places.{PlannedItem}
use Rattle.mrp_item.specs.declared.order.Order.{Order}
use Rattle.mrp_load.specs.Bounds.{AreOrders}
use Rattle.mrp_load.proofs.PlannedOrders.{planned-orders}
use Rattle.mrp_load.proofs.centre.orders_of.Goals as goal

pub returns-clause-orders : goal.returns-clause-orders
returns-clause-orders c = c.orders.ensures.orders ∙ ap (λ (p : PlannedItem). p.plan.orders) c.item.ensures

pub returns-clause-within : goal.returns-clause-within
returns-clause-within c =
    let p : PlannedItem = c.item.result.now in
    let few : length p.plan.orders < 2 ^ 64 = omega (arith, c.orders.type_inv.0, ap (length {A = Order}) c.orders.ensures.orders) in
    let own : AreOrders (horizon p.inputs) p.plan.orders = planned-orders p.inputs p.item p.plan c.orders.ensures.outcome few in
    let here : AreOrders (horizon c.args.plan.now.inputs) p.plan.orders =
    subst (λ (s : Inputs). AreOrders (horizon s) p.plan.orders) (ap (λ (q : PlannedItem). q.inputs) c.item.ensures) own in
    subst (λ (os : List Order). AreOrders (horizon c.args.plan.now.inputs) os) (sym c.orders.ensures.orders) here
