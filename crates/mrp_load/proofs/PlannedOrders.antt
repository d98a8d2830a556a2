-- What the orders of a planned item keep.
use Rattle.std.proofs.Common.{◌≡◌, ℕ, ◌<◌, ◌≤◌, ◌||◌, ◌^◌, Bool, true, false, length, ap, subst, arith}
use Rattle.std.specs.Prelude.{nat_lt, sum_by}
use Rattle.std.specs.Int.{IsInRange}
use Rattle.std.proofs.lemmas.Bool.{ltb-false}
use Rattle.std.proofs.lemmas.List.Elements.{All-weaker}
use Rattle.mrp_qty.specs.Quantity.{greatest_quantity}
use Rattle.mrp_item.specs.declared.order.Order.{Order}
use Rattle.mrp_item.specs.Inputs.{Inputs, horizon}
use Rattle.mrp_item.specs.Plan.{Planned, ItemPlan, outcome_of}
use Rattle.mrp_item.proofs.PlannedRows.{plan_below, step_of}
use Rattle.mrp_item.proofs.OrderWeeks.{due-within, release-within}
use Rattle.mrp_load.specs.Bounds.{AreOrders}

last : (a b c : Bool) → (a || (b || c)) ≡ false → c ≡ false
last true b c e = absurd (cc)
last false true c e = absurd (cc)
last false false c e = e

-- the orders of a planned item
pub planned-orders : (s : Inputs) (i : ℕ) (plan : ItemPlan) → outcome_of s i ≡ Planned plan → length plan.orders < 2 ^ 64 → AreOrders (horizon s) plan.orders
planned-orders s i plan e few =
    let p : ItemPlan = plan_below s i in
    let step = step_of s i plan e in
    let small : nat_lt greatest_quantity (sum_by (λ (o : Order). o.start) p.orders) ≡ false = last _ _ _ step.small in
    let own : AreOrders (horizon s) p.orders = record {
      due = due-within s i p.receipts;
      released = All-weaker (λ (o : Order). IsInRange 1 (horizon s) o.release) (λ (o : Order). 1 ≤ o.release) (λ o is. is.0) p.orders (release-within s i p.receipts);
      starts = ltb-false greatest_quantity (sum_by (λ (o : Order). o.start) p.orders) small;
      few = omega (arith, few, ap (λ (q : ItemPlan). length q.orders) step.same);
    } in
    subst (λ (q : ItemPlan). AreOrders (horizon s) q.orders) step.same own
