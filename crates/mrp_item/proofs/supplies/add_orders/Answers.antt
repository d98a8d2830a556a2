use Rattle.std.proofs.Common.{◌∙◌, ◌+◌, ◌<◌, ◌++◌, ◌∷◌, [], List, length, map, take, sym, ap, arith, append_assoc}
use Rattle.std.specs.List.{enumerate_from}
use Rattle.mrp_item.specs.declared.supplies.Supply.{Supply}
use Rattle.mrp_item.specs.Supplies.{order_supply}
use Rattle.mrp_item.proofs.SupplyOrder.{numbered_more, numbered_all}
use Rattle.mrp_item.proofs.supplies.add_orders.Goals as goal

pub loop-place-preserved : goal.loop-place-preserved
loop-place-preserved c =
    let before = c.args.supplies.now.items in
    let orders = c.args.orders.now in
    let k = c.loop-place.place in
    let x = order_supply (k + 1) c.index-orders-place.result in
    let there : k < length orders = omega (arith, c.loop-place-test.true) in
    let so_far = map (λ o. order_supply o.0 o.1) (take k (enumerate_from 1 orders)) in
    c.in_ok-push.ensures.items
    ∙ ap (λ (xs : List Supply). xs ++ x ∷ []) c.loop-place.invariant
    ∙ append_assoc before so_far (x ∷ [])
    ∙ ap (λ (xs : List Supply). before ++ xs) (sym (numbered_more orders k c.index-orders-place.result there c.index-orders-place.is))

pub returns : goal.returns
returns c =
    c.loop-place.invariant ∙ ap (λ (xs : List Supply). c.args.supplies.now.items ++ xs) (numbered_all c.args.orders.now c.loop-place.place (omega (arith, c.loop-place-test.false)))
