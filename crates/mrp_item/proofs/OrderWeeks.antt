-- The orders of a week, as a loop over weeks finds them.
use Rattle.std.proofs.Common.{◌≡◌, ◌∙◌, ℕ, zero, suc, ◌+◌, ◌-◌, ◌<◌, ◌≤◌, Bool, true, false, cond, List, [], ◌∷◌, ◌++◌, map, refl, sym, ap, arith}
use Rattle.std.specs.Prelude.{All, flat_map, nat_lt, sum_by}
use Rattle.std.specs.Int.{IsInRange}
use Rattle.std.proofs.lemmas.List.Elements.{All-append, All-cons, All-map, All-nil, All-weaker}
use Rattle.std.proofs.lemmas.Simd.{map-map}
use Rattle.mrp_qty.specs.Quantity.{greatest_quantity}
use Rattle.mrp_phase.specs.Weeks.{in_week, weeks}
use Rattle.mrp_phase.proofs.WeekRows.{flat_map-weeks_next, flat_map-weeks_suc}
use Rattle.mrp_item.specs.declared.order.Order.{Order}
use Rattle.mrp_item.specs.declared.order.OrderKind.TheVariants.{Firm, Planned}
use Rattle.mrp_tables.specs.declared.rows.MasterRow.{MasterRow}
use Rattle.mrp_tables.specs.Tables.{Tables}
use Rattle.mrp_item.specs.declared.due.Due.{Due}
use Rattle.mrp_item.specs.Inputs.{Inputs, horizon, item_at}
use Rattle.mrp_item.specs.Rows.{firm_rows}
use Rattle.mrp_item.specs.Dues.{due_in, firm_dues}
use Rattle.mrp_item.specs.Releases.{release_of}
use Rattle.mrp_item.specs.Orders.{order_of, firm_orders, planned_order, orders_due, orders_of}
use Rattle.mrp_item.proofs.DueRows.{due_in-firm}
use Rattle.mrp_item.proofs.Releases.{released-by_due}
use Rattle.mrp_item.proofs.Starts.{starts_rise, start}

firm_due : (s : Inputs) (i week : ℕ) (dues : List Due) → dues ≡ firm_dues s.tables.master i → map (order_of s.tables (item_at s i) Firm week) (due_in week dues) ≡ firm_orders s i week
firm_due s i week dues is =
    ap (λ (ds : List Due). map (order_of s.tables (item_at s i) Firm week) (due_in week ds)) is
    ∙ ap (map (order_of s.tables (item_at s i) Firm week)) (due_in-firm s i week)
    ∙ map-map (order_of s.tables (item_at s i) Firm week) (λ r. r.quantity) (firm_rows s i week)

-- the orders of the weeks so far, and of the next
pub week_more : (s : Inputs) (i k : ℕ) (receipts : List ℕ) (dues : List Due) (before received : ℕ) (tables : Tables) (item : _) → tables ≡ s.tables → item ≡ item_at s i → dues ≡ firm_dues s.tables.master i
    → before ≡ in_week receipts k → received ≡ in_week receipts (k + 1)
    → flat_map (orders_due s i receipts) (weeks k) ++ (map (order_of tables item Firm (k + 1)) (due_in (k + 1) dues) ++ planned_order tables item (k + 1) before received)
    ≡ flat_map (orders_due s i receipts) (weeks (k + 1))
week_more s i k receipts dues before received tables item told here is was now =
    let back : in_week receipts (k + 1 - 1) ≡ in_week receipts k = ap (in_week receipts) (omega arith) in
    ap (λ t. flat_map (orders_due s i receipts) (weeks k) ++ (map (order_of t item Firm (k + 1)) (due_in (k + 1) dues) ++ planned_order t item (k + 1) before received)) told
    ∙ ap (λ x. flat_map (orders_due s i receipts) (weeks k) ++ (map (order_of s.tables x Firm (k + 1)) (due_in (k + 1) dues) ++ planned_order s.tables x (k + 1) before received)) here
    ∙ ap (λ n. flat_map (orders_due s i receipts) (weeks k) ++ (map (order_of s.tables (item_at s i) Firm (k + 1)) (due_in (k + 1) dues) ++ planned_order s.tables (item_at s i) (k + 1) n received)) (was ∙ sym back)
    ∙ ap (λ n. flat_map (orders_due s i receipts) (weeks k) ++ (map (order_of s.tables (item_at s i) Firm (k + 1)) (due_in (k + 1) dues) ++ planned_order s.tables (item_at s i) (k + 1) (in_week receipts (k + 1 - 1)) n)) now
    ∙ ap (λ xs. flat_map (orders_due s i receipts) (weeks k) ++ (xs ++ planned_order s.tables (item_at s i) (k + 1) (in_week receipts (k + 1 - 1)) (in_week receipts (k + 1)))) (firm_due s i (k + 1) dues is)
    ∙ sym (flat_map-weeks_next (orders_due s i receipts) k)

-- too much by a week is too much in all
pub week_past : (s : Inputs) (i k : ℕ) (receipts : List ℕ) (list : List Order) → list ≡ flat_map (orders_due s i receipts) (weeks (k + 1)) → k < horizon s
    → greatest_quantity < sum_by start list → greatest_quantity < sum_by start (orders_of s i receipts)
week_past s i k receipts list is within past =
    omega (arith, past, ap (sum_by start) is, starts_rise (orders_due s i receipts) (k + 1) (horizon s) (omega arith))

-- each order of a week is due in it
due_here : (s : Inputs) (i week : ℕ) (receipts : List ℕ) → All (λ (o : Order). o.due ≡ week) (orders_due s i receipts week)
due_here s i week receipts =
    All-append IsDue (firm_orders s i week) (planned_order s.tables (item_at s i) week (in_week receipts (week - 1)) (in_week receipts week))
    (All-map IsDue (λ (r : MasterRow). order_of s.tables (item_at s i) Firm week r.quantity) (firm_rows s i week) (λ k d h. refl))
    (by (nat_lt (in_week receipts (week - 1)) (in_week receipts week)))
  where
    IsDue : Order → Type 0
    IsDue o = o.due ≡ week

    planned : Order
    planned = order_of s.tables (item_at s i) Planned week (in_week receipts week - in_week receipts (week - 1))

    by : (b : Bool) → All IsDue (cond b (planned ∷ []) [])
    by true = All-cons IsDue planned [] refl (All-nil IsDue)
    by false = All-nil IsDue

-- if each week's elements are within week 1 and that week, the elements of the first n weeks are within week 1 and week n
within-all : {X : Type 0} (of : X → ℕ) (f : ℕ → List X) → ((n : ℕ) → All (λ x. IsInRange 1 (suc n) (of x)) (f (suc n))) → (n : ℕ) → All (λ x. IsInRange 1 n (of x)) (flat_map f (weeks n))
within-all of f each zero = All-nil (λ x. IsInRange 1 0 (of x))
within-all {X} of f each (suc n) =
    rw (flat_map-weeks_suc f n)
    (All-append (IsWithin (suc n)) (flat_map f (weeks n)) (f (suc n))
    (All-weaker (IsWithin n) (IsWithin (suc n)) (λ x is. (is.0, omega (arith, is.1))) (flat_map f (weeks n)) (within-all of f each n))
    (each n))
  where
    IsWithin : ℕ → X → Type 0
    IsWithin m x = IsInRange 1 m (of x)

-- each order of an item is due in a week of the horizon
pub due-within : (s : Inputs) (i : ℕ) (receipts : List ℕ) → All (λ (o : Order). IsInRange 1 (horizon s) o.due) (orders_of s i receipts)
due-within s i receipts =
    within-all (λ (o : Order). o.due) (orders_due s i receipts)
    (λ n. All-weaker (λ (o : Order). o.due ≡ suc n) (λ (o : Order). IsInRange 1 (suc n) o.due) (λ o is. (omega (arith, is), omega (arith, is))) (orders_due s i receipts (suc n)) (due_here s i (suc n) receipts))
    (horizon s)

-- each order of a week is released by it
released_here : (s : Inputs) (i week : ℕ) (receipts : List ℕ) → 1 ≤ week → All (λ (o : Order). IsInRange 1 week o.release) (orders_due s i receipts week)
released_here s i week receipts from =
    All-append IsReleased (firm_orders s i week) (planned_order s.tables (item_at s i) week (in_week receipts (week - 1)) (in_week receipts week))
    (All-map IsReleased (λ (r : MasterRow). order_of s.tables (item_at s i) Firm week r.quantity) (firm_rows s i week) (λ k d h. within))
    (by (nat_lt (in_week receipts (week - 1)) (in_week receipts week)))
  where
    IsReleased : Order → Type 0
    IsReleased o = IsInRange 1 week o.release

    within : IsInRange 1 week (release_of s.tables week (item_at s i).lead).week
    within = released-by_due s.tables (item_at s i).lead week from

    planned : Order
    planned = order_of s.tables (item_at s i) Planned week (in_week receipts week - in_week receipts (week - 1))

    by : (b : Bool) → All IsReleased (cond b (planned ∷ []) [])
    by true = All-cons IsReleased planned [] within (All-nil IsReleased)
    by false = All-nil IsReleased

-- each order of an item is released in a week of the horizon
pub release-within : (s : Inputs) (i : ℕ) (receipts : List ℕ) → All (λ (o : Order). IsInRange 1 (horizon s) o.release) (orders_of s i receipts)
release-within s i receipts =
    within-all (λ (o : Order). o.release) (orders_due s i receipts) (λ n. released_here s i (suc n) receipts (omega arith)) (horizon s)
