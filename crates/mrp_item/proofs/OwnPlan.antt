-- An item's outcome from its rows.
use Rattle.std.proofs.Common.{◌≡◌, ◌∙◌, ℕ, ◌+◌, ◌<◌, ◌≤◌, inl, inr, true, false, List, length, refl, sym, ap, arith}
use Rattle.std.specs.Prelude.{sum, sum_by, nat_lt}
use Rattle.std.specs.List.{list_all}
use Rattle.std.proofs.lemmas.Bool.{lt-ltb, le-ltb, or_right}
use Rattle.mrp_qty.specs.Quantity.{greatest_quantity}
use Rattle.mrp_bill.specs.Bill.{parents_of}
use Rattle.mrp_phase.specs.Weeks.{in_week, sum_to}
use Rattle.mrp_phase.proofs.WeekRows.{length-row, sum_to_whole}
use Rattle.mrp_item.specs.Inputs.{Inputs, count, horizon}
use Rattle.mrp_item.specs.Rows.{scheduled_in, stock_of}
use Rattle.mrp_item.specs.Orders.{orders_of}
use Rattle.mrp_item.specs.Own.{AreWithin, ArePast, IsReady, own_gross}
use Rattle.mrp_item.specs.Plan.{ItemPlan, IsRanked, Over, Planned, Blocked, gross_in, is_planned, is_too_large, item_plan, outcome_of, receipts_of}
use Rattle.mrp_item.proofs.Outcomes.{is_ready, not_ready}

-- sums up to the last week are sums of rows
whole : (xs : List ℕ) (n : ℕ) → length xs ≡ n → sum_to xs n ≡ sum xs
whole xs n e = ap (sum_to xs) (sym e) ∙ sum_to_whole xs

gross_whole : (s : Inputs) (i : ℕ) → sum_to (own_gross s i) (horizon s) ≡ sum (own_gross s i)
gross_whole s i = whole (own_gross s i) (horizon s) (length-row (gross_in s i (outcome_of s)) (horizon s))

scheduled_whole : (s : Inputs) (i : ℕ) → sum_to (stock_of s i).scheduled (horizon s) ≡ sum (stock_of s i).scheduled
scheduled_whole s i = whole (stock_of s i).scheduled (horizon s) (length-row (scheduled_in s i) (horizon s))

-- an item's own plan, from its parents' outcomes
abbrev pub own : Inputs → ℕ → ItemPlan
own s i = item_plan s i (own_gross s i)

over : (s : Inputs) (code : ℕ → ℕ) (i : ℕ) → IsRanked s code → IsReady s i → is_too_large s i (own s i) ≡ true → outcome_of s i ≡ Over
over s code i ranked ready large = is_ready s code ranked i ready ∙ rw large refl

-- requirements or supplies above the greatest quantity
pub past-over : (s : Inputs) (code : ℕ → ℕ) (i : ℕ) → IsRanked s code → IsReady s i → ArePast s i (own_gross s i) → outcome_of s i ≡ Over
past-over s code i ranked ready (inl h) =
    over s code i ranked ready (rw (lt-ltb greatest_quantity (sum_to (own_gross s i) (horizon s) + (stock_of s i).safety) (omega (arith, h, gross_whole s i))) refl)
past-over s code i ranked ready (inr h) =
    over s code i ranked ready (or_right (nat_lt greatest_quantity (sum_to (own_gross s i) (horizon s) + (stock_of s i).safety)) _
    (rw (lt-ltb greatest_quantity ((stock_of s i).on_hand + sum_to (stock_of s i).scheduled (horizon s) + in_week (receipts_of s i (own_gross s i)) (horizon s)) (omega (arith, h, scheduled_whole s i))) refl))

-- requirements alone above it
pub gross-over : (s : Inputs) (code : ℕ → ℕ) (i : ℕ) → IsRanked s code → IsReady s i → greatest_quantity < sum (own_gross s i) → outcome_of s i ≡ Over
gross-over s code i ranked ready h = past-over s code i ranked ready (inl (omega (arith, h)))

-- starts above it
pub starts-over : (s : Inputs) (code : ℕ → ℕ) (i : ℕ) → IsRanked s code → IsReady s i → greatest_quantity < sum_by (λ o. o.start) (orders_of s i (receipts_of s i (own_gross s i))) → outcome_of s i ≡ Over
starts-over s code i ranked ready h =
    over s code i ranked ready (or_right (nat_lt greatest_quantity (sum_to (own_gross s i) (horizon s) + (stock_of s i).safety)) _
    (or_right (nat_lt greatest_quantity ((stock_of s i).on_hand + sum_to (stock_of s i).scheduled (horizon s) + in_week (receipts_of s i (own_gross s i)) (horizon s))) _
    (lt-ltb greatest_quantity (sum_by (λ o. o.start) (orders_of s i (receipts_of s i (own_gross s i)))) h)))

-- all three within it
pub within-planned : (s : Inputs) (code : ℕ → ℕ) (i : ℕ) → IsRanked s code → IsReady s i → AreWithin s i (own_gross s i)
    → sum_by (λ o. o.start) (orders_of s i (receipts_of s i (own_gross s i))) ≤ greatest_quantity → outcome_of s i ≡ Planned (own s i)
within-planned s code i ranked ready within starts =
    let a = le-ltb greatest_quantity (sum_to (own_gross s i) (horizon s) + (stock_of s i).safety) (omega (arith, within.requirements, gross_whole s i)) in
    let b = le-ltb greatest_quantity ((stock_of s i).on_hand + sum_to (stock_of s i).scheduled (horizon s) + in_week (receipts_of s i (own_gross s i)) (horizon s)) (omega (arith, within.supplies, scheduled_whole s i)) in
    let d = le-ltb greatest_quantity (sum_by (λ o. o.start) (orders_of s i (receipts_of s i (own_gross s i)))) starts in
    let small : is_too_large s i (own s i) ≡ false = rw (a, b, d) refl in
    is_ready s code ranked i ready ∙ rw small refl

-- a parent that is not planned
pub blocked : (s : Inputs) (code : ℕ → ℕ) (i : ℕ) → IsRanked s code → list_all (λ p. is_planned (outcome_of s p)) (parents_of s.tables.bills (count s) i) ≡ false → outcome_of s i ≡ Blocked
blocked s code i ranked e = not_ready s code ranked i e
