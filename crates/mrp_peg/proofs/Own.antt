-- What a planned item's plan is, and that its sums are within the greatest quantity.
use Rattle.std.proofs.Common.{◌≡◌, ◌∙◌, ℕ, ◌+◌, ◌<◌, ◌≤◌, Bool, true, false, Option, Some, None, Ok, List, map, length, refl, sym, ap, subst, arith}
use Rattle.std.specs.Prelude.{◌||◌, nat_lt, sum, sum_by, All}
use Rattle.std.specs.List.{list_all}
use Rattle.std.specs.Int.{IsInRange}
use Rattle.std.proofs.lemmas.Bool.{ltb-false}
use Rattle.mrp_qty.specs.Quantity.{greatest_quantity}
use Rattle.mrp_bill.specs.Bill.{parents_of}
use Rattle.mrp_phase.specs.Weeks.{in_week, sum_to}
use Rattle.mrp_phase.proofs.WeekRows.{length-row, sum_to_whole}
use Rattle.mrp_item.specs.declared.order.Order.{Order}
use Rattle.mrp_item.specs.Inputs.{Inputs, count, horizon, places}
use Rattle.mrp_item.specs.Rows.{stock_of}
use Rattle.mrp_item.specs.Orders.{orders_of}
use Rattle.mrp_item.specs.Own.{own_gross}
use Rattle.mrp_peg.specs.Own.{IsOwn}
use Rattle.mrp_item.specs.Plan.{HasParents, IsRanked, ItemPlan, Outcome, Planned, Over, Blocked, first_over, gross_in, is_planned, is_too_large, item_plan, outcome_of, plan_in, plan_of, plan_unless, receipts_of}
use Rattle.mrp_item.proofs.Outcomes.{all-planned, outcome_of-unfolds}
use Rattle.mrp_item.proofs.OrderWeeks.{due-within, release-within}
use Rattle.mrp_item.proofs.PlannedRows.{stepped}

pub own : (s : Inputs) (i : ℕ) (code : ℕ → ℕ) (plan : ItemPlan) → IsRanked s code → outcome_of s i ≡ Planned plan → IsOwn s i
own s i code plan ranked e =
    let p : ItemPlan = item_plan s i (own_gross s i) in
    let is = stepped (list_all (λ q. is_planned (outcome_of s q)) (parents_of s.tables.bills (count s) i)) (is_too_large s i p) p plan (sym (outcome_of-unfolds s code ranked i) ∙ e) in
    record { plan = ap plan_in e ∙ sym is.same; small = is.small }

none-over : (first : Option ℕ) (plans all : List ItemPlan) → plan_unless first all ≡ Ok plans → first ≡ None
none-over None plans all e = refl
none-over (Some i) plans all e = absurd (cc)

-- each item of a plan of all is planned
pub own-of_all : (s : Inputs) (i : ℕ) (code : ℕ → ℕ) (plans : List ItemPlan) → IsRanked s code → HasParents s → plan_of s ≡ Ok plans → i < count s → IsOwn s i
own-of_all s i code plans ranked has e within =
    own s i code (plan_in (outcome_of s i)) ranked (all-planned s code ranked has (none-over (first_over s) plans (map (λ j. plan_in (outcome_of s j)) (places s)) e) i within)

one_of : (a b c : Bool) → (a || (b || c)) ≡ false → a ≡ false
one_of true b c e = e
one_of false b c e = refl

pub gross-within : (s : Inputs) (i : ℕ) → IsOwn s i → sum (own_gross s i) ≤ greatest_quantity
gross-within s i is =
    let p : ItemPlan = item_plan s i (own_gross s i) in
    let e : nat_lt greatest_quantity (sum_to (own_gross s i) (horizon s) + (stock_of s i).safety) ≡ false =
    one_of (nat_lt greatest_quantity (sum_to (own_gross s i) (horizon s) + (stock_of s i).safety)) (nat_lt greatest_quantity ((stock_of s i).on_hand + sum_to (stock_of s i).scheduled (horizon s) + in_week p.receipts (horizon s)))
    (nat_lt greatest_quantity (sum_by (λ (o : Order). o.start) p.orders)) is.small in
    let whole : sum_to (own_gross s i) (horizon s) ≡ sum (own_gross s i) =
    ap (sum_to (own_gross s i)) (sym (length-row (gross_in s i (outcome_of s)) (horizon s))) ∙ sum_to_whole (own_gross s i) in
    omega (arith, whole, ltb-false greatest_quantity (sum_to (own_gross s i) (horizon s) + (stock_of s i).safety) e)

pub orders-own : (s : Inputs) (i : ℕ) → IsOwn s i → (plan_in (outcome_of s i)).orders ≡ orders_of s i (receipts_of s i (own_gross s i))
orders-own s i is = ap (λ (p : ItemPlan). p.orders) is.plan

pub gross-own : (s : Inputs) (i : ℕ) → IsOwn s i → (plan_in (outcome_of s i)).gross ≡ own_gross s i
gross-own s i is = ap (λ (p : ItemPlan). p.gross) is.plan

-- each order of any item of the plan is released in a week of the horizon
pub all_released : (s : Inputs) (code : ℕ → ℕ) → IsRanked s code → (i : ℕ) → All (λ (o : Order). IsInRange 1 (horizon s) o.release) (plan_in (outcome_of s i)).orders
all_released s code ranked i = by (outcome_of s i) refl
  where
    AreReleased : List Order → Type 0
    AreReleased os = All (λ (o : Order). IsInRange 1 (horizon s) o.release) os

    by : (o : Outcome) → outcome_of s i ≡ o → All (λ (o : Order). IsInRange 1 (horizon s) o.release) (plan_in o).orders
    by (Planned plan) e k d h = subst AreReleased (sym (ap (λ o. (plan_in o).orders) (sym e) ∙ orders-own s i (own s i code plan ranked e))) (release-within s i (receipts_of s i (own_gross s i))) k d h
    by Over e k d h = absurd (omega (arith, h))
    by Blocked e k d h = absurd (omega (arith, h))

-- each order of a planned item is due in a week of the horizon
pub all_due : (s : Inputs) (i : ℕ) → IsOwn s i → All (λ (o : Order). IsInRange 1 (horizon s) o.due) (plan_in (outcome_of s i)).orders
all_due s i is =
    let P : List Order → Type 0 = λ os. All (λ (o : Order). IsInRange 1 (horizon s) o.due) os in
    subst P (sym (orders-own s i is)) (due-within s i (receipts_of s i (own_gross s i)))

pub gross-length : (s : Inputs) (i : ℕ) → IsOwn s i → length (plan_in (outcome_of s i)).gross ≡ horizon s
gross-length s i is = ap length (gross-own s i is) ∙ length-row (gross_in s i (outcome_of s)) (horizon s)
