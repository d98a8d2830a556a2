-- What holds of a planned item's rows.
use Rattle.std.proofs.Common.{◌≡◌, ◌∙◌, ℕ, ◌+◌, ◌≤◌, ◌||◌, Bool, true, false, length, ap, sym, refl, arith}
use Rattle.std.proofs.lemmas.Bool.{ltb-false}
use Rattle.std.specs.Prelude.{if◌then◌else◌, sum, nat_lt}
use Rattle.std.specs.List.{list_all}
use Rattle.mrp_qty.specs.Quantity.{greatest_quantity}
use Rattle.mrp_phase.specs.Weeks.{row, sum_to}
use Rattle.mrp_phase.proofs.WeekRows.{length-row, sum_to_whole}
use Rattle.mrp_bill.specs.Bill.{parents_of}
use Rattle.mrp_item.specs.Inputs.{Inputs, count, horizon}
use Rattle.mrp_item.specs.Rows.{stock_of}
use Rattle.mrp_item.specs.Orders.{orders_of}
use Rattle.mrp_item.specs.Recursion.{value_to}
use Rattle.mrp_item.specs.Plan.{Outcome, Planned, Over, Blocked, ItemPlan, is_planned, is_too_large, item_plan, gross_in, outcome_of, outcome_step}

-- an item's plan, from the outcomes of those above it
abbrev pub plan_below : Inputs → ℕ → ItemPlan
plan_below s i = item_plan s i (row (horizon s) (gross_in s i (value_to (outcome_step s) Blocked (count s))))

-- a planned item's plan is that of its parents' outcomes, and not too large
pub record IsStep (large : Bool) (own plan : ItemPlan) : Type 0 where
  pub small : large ≡ false
  pub same : own ≡ plan

pub stepped : (ready large : Bool) (own plan : ItemPlan) → (if ready then (if large then Over else Planned own) else Blocked) ≡ Planned plan → IsStep large own plan
stepped true true own plan e = absurd (cc)
stepped true false own plan e = record { small = refl; same = cc }
stepped false large own plan e = absurd (cc)

pub step_of : (s : Inputs) (i : ℕ) (plan : ItemPlan) → outcome_of s i ≡ Planned plan → IsStep (is_too_large s i (plan_below s i)) (plan_below s i) plan
step_of s i plan e =
    let above : ℕ → Outcome = value_to (outcome_step s) Blocked (count s) in
    let own : ItemPlan = plan_below s i in
    let is : outcome_step s i above ≡ Planned plan = unfold outcome_of in unfold value_to in e in
    stepped (list_all (λ q. is_planned (above q)) (parents_of s.tables.bills (count s) i)) (is_too_large s i own) own plan is

first : (a b : Bool) → (a || b) ≡ false → a ≡ false
first true b e = absurd (cc)
first false b e = refl

-- gross requirements, safety stock and orders
pub record IsPlanOf (s : Inputs) (i : ℕ) (plan : ItemPlan) : Type 0 where
  pub weeks : length plan.gross ≡ horizon s
  pub within : sum plan.gross + (stock_of s i).safety ≤ greatest_quantity
  pub orders : plan.orders ≡ orders_of s i plan.receipts

pub planned_rows : (s : Inputs) (i : ℕ) (plan : ItemPlan) → outcome_of s i ≡ Planned plan → IsPlanOf s i plan
planned_rows s i plan e =
    let p : ItemPlan = plan_below s i in
    let step = step_of s i plan e in
    let small : nat_lt greatest_quantity (sum_to p.gross (horizon s) + (stock_of s i).safety) ≡ false = first _ _ step.small in
    let at_most = ltb-false greatest_quantity (sum_to p.gross (horizon s) + (stock_of s i).safety) small in
    let gross : p.gross ≡ plan.gross = ap (λ (q : ItemPlan). q.gross) step.same in
    let long : length p.gross ≡ horizon s = length-row (gross_in s i (value_to (outcome_step s) Blocked (count s))) (horizon s) in
    let whole : sum_to p.gross (horizon s) ≡ sum p.gross = ap (sum_to p.gross) (sym long) ∙ sum_to_whole p.gross in
    record {
      weeks = ap length (sym gross) ∙ long;
      within = omega (arith, at_most, whole, ap sum gross);
      orders = ap (λ (q : ItemPlan). q.orders) (sym step.same) ∙ ap (λ (q : ItemPlan). orders_of s i q.receipts) step.same;
    }
