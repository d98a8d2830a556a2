-- The orders of a plan by the week of their release.
use Rattle.std.proofs.Common.{◌≡◌, ◌∙◌, ◌≢◌, ℕ, zero, suc, ◌+◌, ◌-◌, ◌<◌, ◌≤◌, Bool, true, false, cond, List, [], ◌∷◌, ◌++◌, length, take, map, get_or, refl, sym, ap, subst, arith, append_assoc}
use Rattle.std.specs.Prelude.{◌==◌, All, filter, flat_map, nat_lt}
use Rattle.std.specs.List.{enumerate_from, range_with_len}
use Rattle.std.specs.List.Sorted.{IsNonDecreasingBy}
use Rattle.std.proofs.lemmas.Bool.{eq-eqb, ne_eqb}
use Rattle.std.proofs.lemmas.List.{append-nil, get_or_default, map-append}
use Rattle.std.proofs.lemmas.List.Elements.{All-append, All-map, filter-append}
use Rattle.mrp_phase.specs.Weeks.{in_week}
use Rattle.mrp_tables.specs.declared.rows.MasterRow.{MasterRow}
use Rattle.mrp_item.specs.declared.order.Order.{Order}
use Rattle.mrp_item.specs.declared.order.OrderKind.TheVariants.{Firm, Planned as Made}
use Rattle.mrp_item.specs.Inputs.{Inputs, horizon, item_at}
use Rattle.mrp_item.specs.Orders.{firm_orders, order_of, orders_due, planned_order}
use Rattle.mrp_item.specs.Own.{own_gross}
use Rattle.mrp_item.specs.Plan.{IsRanked, Outcome, Planned, Over, Blocked, outcome_of, plan_in, receipts_of}
use Rattle.mrp_item.specs.Releases.{release_of}
use Rattle.mrp_item.specs.Rows.{firm_rows}
use Rattle.mrp_item.proofs.Releases.{released-rises}
use Rattle.mrp_peg.specs.declared.matching.Requirement.{Requirement}
use Rattle.mrp_peg.specs.Rows.{order_requirement}
use Rattle.mrp_peg.proofs.Lists.{All-weeks}
use Rattle.mrp_peg.proofs.Loops.{numbered_more}
use Rattle.mrp_peg.proofs.Own.{orders-own, own}

-- rows in order, and after them rows in order that are no lower
rising_append : {X : Type 0} (key : X → ℕ) (xs ys : List X) → IsNonDecreasingBy key xs → IsNonDecreasingBy key ys → (m : ℕ) → All (λ x. key x ≤ m) xs → All (λ y. m ≤ key y) ys → IsNonDecreasingBy key (xs ++ ys)
rising_append key [] ys up more m low high i j d le h = more i j d le h
rising_append key (x ∷ xs) ys up more m low high zero zero d le h = omega arith
rising_append {X} key (x ∷ xs) ys up more m low high zero (suc j) d le h =
    let AtLeast : X → Type 0 = λ y. key x ≤ key y in
    let first : key x ≤ m = low 0 x (omega arith) in
    All-append AtLeast xs ys (λ k e g. up 0 (suc k) e (omega arith) (omega (arith, g))) (λ k e g. omega (arith, first, high k e g)) j d (omega (arith, h))
rising_append key (x ∷ xs) ys up more m low high (suc i) zero d le h = absurd (omega (arith, le))
rising_append key (x ∷ xs) ys up more m low high (suc i) (suc j) d le h =
    rising_append key xs ys (λ a b e g f. up (suc a) (suc b) e (omega (arith, g)) (omega (arith, f))) more m (λ k e g. low (suc k) e (omega (arith, g))) high i j d (omega (arith, le)) (omega (arith, h))

all_one : {X : Type 0} (key : X → ℕ) (m : ℕ) (xs : List X) → All (λ x. key x ≡ m) xs → IsNonDecreasingBy key xs
all_one key m xs all i j d le h = omega (arith, all i d (omega (arith, le, h)), all j d h)

-- rows that are listed week by week, with a key that rises with the week
rising_weeks : {X : Type 0} (key : X → ℕ) (of : ℕ → ℕ) → ((v w : ℕ) → v ≤ w → of v ≤ of w) → (f : ℕ → List X) → ((w : ℕ) → All (λ x. key x ≡ of w) (f w)) → (first count : ℕ) → IsNonDecreasingBy key (flat_map f (range_with_len first count))
rising_weeks key of up f all first zero = λ i j d le h. absurd (omega (arith, h))
rising_weeks {X} key of up f all first (suc count) =
    let later : All (λ x. of first ≤ key x) (flat_map f (range_with_len (first + 1) count)) = All-weeks (λ x. of first ≤ key x) f (first + 1) count (λ w low high k d g. omega (arith, all w k d g, up first w (omega (arith, low)))) in
    rising_append key (f first) (flat_map f (range_with_len (first + 1) count)) (all_one key (of first) (f first) (all first)) (rising_weeks key of up f all (first + 1) count) (of first) (λ k d g. omega (arith, all first k d g)) later

release_in : (s : Inputs) (i : ℕ) (receipts : List ℕ) (w : ℕ) → All (λ (o : Order). o.release ≡ (release_of s.tables w (item_at s i).lead).week) (orders_due s i receipts w)
release_in s i receipts w =
    All-append IsReleased (firm_orders s i w) (planned_order s.tables (item_at s i) w (in_week receipts (w - 1)) (in_week receipts w))
    (All-map IsReleased (λ (r : MasterRow). order_of s.tables (item_at s i) Firm w r.quantity) (firm_rows s i w) (λ k d h. refl))
    (by (nat_lt (in_week receipts (w - 1)) (in_week receipts w)))
  where
    IsReleased : Order → Type 0
    IsReleased o = o.release ≡ (release_of s.tables w (item_at s i).lead).week

    by : (b : Bool) → All IsReleased (cond b (order_of s.tables (item_at s i) Made w (in_week receipts w - in_week receipts (w - 1)) ∷ []) [])
    by true zero d h = refl
    by true (suc k) d h = absurd (omega (arith, h))
    by false k d h = absurd (omega (arith, h))

abbrev release : Order → ℕ
release o = o.release

-- the orders of any item of the plan are in order of release
pub all_rising : (s : Inputs) (code : ℕ → ℕ) → IsRanked s code → (i : ℕ) → IsNonDecreasingBy (λ (o : Order). o.release) (plan_in (outcome_of s i)).orders
all_rising s code ranked i = by (outcome_of s i) refl
  where
    Rising : List Order → Type 0
    Rising os = IsNonDecreasingBy release os

    by : (o : Outcome) → outcome_of s i ≡ o → IsNonDecreasingBy release (plan_in o).orders
    by (Planned plan) e a b d le h =
        let receipts = receipts_of s i (own_gross s i) in
        subst Rising (sym (ap (λ o. (plan_in o).orders) (sym e) ∙ orders-own s i (own s i code plan ranked e)))
        (rising_weeks release (λ w. (release_of s.tables w (item_at s i).lead).week) (released-rises s.tables (item_at s i).lead) (orders_due s i receipts) (release_in s i receipts) 1 (horizon s)) a b d le h
    by Over e a b d le h = absurd (omega (arith, h))
    by Blocked e a b d le h = absurd (omega (arith, h))

abbrev pub in_the : ℕ → Requirement → Bool
in_the week w = w.need.week == week

abbrev pub required : ℕ → ℕ → ℕ → ℕ → ℕ → List Order → List Requirement
required i line per week n orders = filter (in_the week) (map (order_requirement i line per) (enumerate_from n orders))

none_required : (i line per week n k : ℕ) (orders : List Order) → ((j : ℕ) (d : Order) → j < k → j < length orders → release (get_or orders j d) ≢ week) → required i line per week n (take k orders) ≡ []
none_required i line per week n zero orders other = refl
none_required i line per week n (suc k) [] other = refl
none_required i line per week n (suc k) (o ∷ orders) other =
    ap (λ b. cond b (order_requirement i line per (n, o) ∷ required i line per week (n + 1) (take k orders)) (required i line per week (n + 1) (take k orders))) (ne_eqb o.release week (other 0 o (omega arith) (omega arith)))
    ∙ none_required i line per week (n + 1) k orders (λ j d below h. other (suc j) d (omega (arith, below)) (omega (arith, h)))

-- no order of the week is after a place
pub required_before : (i line per week n k : ℕ) (orders : List Order) → ((j : ℕ) (d : Order) → k ≤ j → j < length orders → release (get_or orders j d) ≢ week) → required i line per week n orders ≡ required i line per week n (take k orders)
required_before i line per week n k [] other = ap (required i line per week n) (none k)
  where
    none : (k : ℕ) → [] ≡ take {A = Order} k []
    none zero = refl
    none (suc k) = refl
required_before i line per week n zero (o ∷ orders) other =
    ap (λ b. cond b (order_requirement i line per (n, o) ∷ required i line per week (n + 1) orders) (required i line per week (n + 1) orders)) (ne_eqb o.release week (other 0 o (omega arith) (omega arith)))
    ∙ required_before i line per week (n + 1) 0 orders (λ j d above h. other (suc j) d (omega arith) (omega (arith, h)))
required_before i line per week n (suc k) (o ∷ orders) other =
    ap (λ l. cond (o.release == week) (order_requirement i line per (n, o) ∷ l) l) (required_before i line per week (n + 1) k orders (λ j d above h. other (suc j) d (omega (arith, above)) (omega (arith, h))))

pub required_first : (i line per week k : ℕ) (orders : List Order) (old : List Requirement) → ((j : ℕ) (d : Order) → j < k → j < length orders → release (get_or orders j d) ≢ week) → old ≡ old ++ required i line per week 1 (take k orders)
required_first i line per week k orders old other = sym (ap (λ l. old ++ l) (none_required i line per week 1 k orders other) ∙ append-nil old)

-- one more order of the week
pub required_more : (i line per week k : ℕ) (orders : List Order) (o : Order) (old before now : List Requirement) → k < length orders → o ≡ get_or orders k o → o.release ≡ week
    → before ≡ old ++ required i line per week 1 (take k orders) → now ≡ before ++ order_requirement i line per (k + 1, o) ∷ [] → now ≡ old ++ required i line per week 1 (take (k + 1) orders)
required_more i line per week k orders o old before now h at same is told =
    let f = order_requirement i line per in
    let front = map f (enumerate_from 1 (take k orders)) in
    told ∙ ap (λ l. l ++ f ((k + 1, o)) ∷ []) is
    ∙ append_assoc old (filter (in_the week) front) (f ((k + 1, o)) ∷ [])
    ∙ ap (λ l. old ++ (filter (in_the week) front ++ l)) (sym (ap (λ b. cond b (f ((k + 1, o)) ∷ []) []) (eq-eqb o.release week same)))
    ∙ ap (λ l. old ++ l) (sym (filter-append (in_the week) front (f ((k + 1, o)) ∷ [])))
    ∙ ap (λ l. old ++ filter (in_the week) l) (sym (map-append f (enumerate_from 1 (take k orders)) ((k + 1, o) ∷ [])))
    ∙ ap (λ (x : Order). old ++ filter (in_the week) (map f (enumerate_from 1 (take k orders) ++ (k + 1, x) ∷ []))) at
    ∙ ap (λ l. old ++ filter (in_the week) (map f l)) (sym (numbered_more 1 k orders o h))

-- after an order of a later week there is none of the week
pub none_behind : (week k : ℕ) (orders : List Order) (o : Order) → IsNonDecreasingBy (λ (x : Order). x.release) orders → k < length orders → o ≡ get_or orders k o → week ≤ o.release → o.release ≢ week
    → (j : ℕ) (d : Order) → k ≤ j → j < length orders → release (get_or orders j d) ≢ week
none_behind week k orders o up h is low other j d above g same =
    let first : get_or orders k d ≡ o = get_or_default orders k d o h ∙ sym is in
    other (omega (arith, low, ap release first, up k j d above g, same))
