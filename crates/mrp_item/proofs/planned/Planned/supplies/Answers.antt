use Rattle.std.proofs.Common.{◌≡◌, ◌∙◌, ◌++◌, ◌∷◌, [], ℕ, List, map, ap, rules}
use Rattle.std.specs.Prelude.{All}
use Rattle.std.specs.Int.{IsInRange}
use Rattle.std.specs.List.{enumerate_from}
use Rattle.std.proofs.lemmas.List.Sorted.{IsNonDecreasingBy-from_sort_by_key, answers_always}
use Rattle.mrp_item.specs.declared.due.Due.{Due}
use Rattle.mrp_item.specs.declared.order.Order.{Order}
use Rattle.mrp_item.specs.declared.supplies.Supply.{Supply}
use Rattle.mrp_item.specs.Dues.{receipt_dues}
use Rattle.mrp_item.specs.Inputs.{horizon}
use Rattle.mrp_item.specs.Rows.{on_hand}
use Rattle.mrp_item.specs.Supplies.{due_supply, order_supply, stock_supply}
use Rattle.mrp_item.proofs.OrderWeeks.{due-within}
use Rattle.mrp_item.proofs.PlannedRows.{planned_rows}
use Rattle.mrp_item.proofs.SupplyOrder.{coming, coming_within, in_order}
use Rattle.mrp_item.proofs.planned.Planned.supplies.Goals as goal

pub returns : goal.returns
returns c =
    let planned = c.args.self.now in
    let s = planned.inputs in
    let i = planned.item in
    let inputs : c.deref-inputs.result.now ≡ s = c.deref-inputs.ensures ∙ c.inputs.ensures.inputs in
    let receipts = c.receipts-receipts.result.now in
    let orders = c.orders-orders.result.now in
    let own : receipts ≡ receipt_dues s.tables.receipts i = rw (inputs, c.item-item.ensures.item) at c.receipts-receipts.ensures.dues in
    let given : orders ≡ planned.plan.orders = c.orders-orders.ensures.orders in
    let hand : c.on_hand-on_hand.result ≡ on_hand s i = rw (inputs, c.item-item.ensures.item) at c.on_hand-on_hand.ensures in
    let before = c.add_orders.new.supplies.items in
    let F : ℕ → List Due → List Order → List Supply = λ q rs os. stock_supply q ∷ coming rs os in
    let items : before ≡ F c.on_hand-on_hand.result receipts orders =
    c.in_ok-add_orders.ensures
    ∙ ap (λ (xs : List Supply). xs ++ map (λ o. order_supply o.0 o.1) (enumerate_from 1 orders)) (c.in_ok-add_receipts.ensures
    ∙ ap (λ (xs : List Supply). xs ++ map due_supply receipts) (c.in_ok-push.ensures.items
    ∙ ap (λ (xs : List Supply). xs ++ stock_supply c.on_hand-on_hand.result ∷ []) c.in_ok-supplies.ensures.items)) in
    let named : before ≡ F (on_hand s i) (receipt_dues s.tables.receipts i) planned.plan.orders =
    items ∙ ap (λ q. F q receipts orders) hand ∙ ap (λ rs. F (on_hand s i) rs orders) own ∙ ap (λ os. F (on_hand s i) (receipt_dues s.tables.receipts i) os) given in
    let all_orders : All (λ (o : Order). IsInRange 1 (horizon s) o.due) planned.plan.orders = rw (planned_rows s i planned.plan c.inputs.ensures.outcome).orders (due-within s i planned.plan.receipts) in
    let within : All (λ (due : Due). IsInRange 1 (horizon s) due.week) receipts = rw inputs at c.receipts-receipts.ensures.within in
    let all_receipts : All (λ (due : Due). IsInRange 1 (horizon s) due.week) (receipt_dues s.tables.receipts i) = rw own at within in
    in_order s i planned.plan.orders before c.sort_by_key.new.self.items named c.in_ok-sort_by_key.ensures.permutation
    (IsNonDecreasingBy-from_sort_by_key (λ (x : Supply). x.week) _ c.in_ok-sort_by_key.ensures.sorted (λ a r q k. search rules))
    (c.in_ok-sort_by_key.ensures.stable (λ (x : Supply). x.week) (answers_always _ _ _ (λ f a r g h. search rules)))
    (coming_within (horizon s) (receipt_dues s.tables.receipts i) planned.plan.orders all_receipts all_orders)
