-- Each requirement of the plan has a cause.
use Rattle.std.proofs.Common.{◌≡◌, ◌∙◌, ◌⊎◌, ℕ, zero, suc, ◌-◌, ◌<◌, ◌≤◌, ◌==◌, ◌&&◌, Bool, true, false, List, [], ◌∷◌, length, map, refl, sym, ap, arith, inl, inr, subst, Option, Some, None, eq-eqb, eqb-true, ltb-true}
use Rattle.std.specs.Prelude.{All, Contains, filter, if◌then◌else◌, nat_lt, sum_by}
use Rattle.std.specs.List.{enumerate_from, list_any}
use Rattle.std.specs.Int.{IsInRange}
use Rattle.std.proofs.lemmas.Bool.{and_parts}
use Rattle.std.proofs.lemmas.List.Elements.{All-contains, Contains-append_cases, Contains-append_right}
use Rattle.std.proofs.lemmas.List.FromFn.{get_or-enumerate_from, get_or-range_with_len, length-enumerate_from, length-range_with_len}
use Rattle.std.proofs.lemmas.List.Sums.{get_or-le-sum_by}
use Rattle.mrp_tables.specs.Master.{is_firm}
use Rattle.mrp_tables.specs.declared.rows.MasterRow.{MasterRow}
use Rattle.mrp_tables.specs.declared.rows.Receipt.{Receipt}
use Rattle.mrp_bill.specs.Bill.{IsOrder}
use Rattle.mrp_phase.specs.Weeks.{in_week, weeks}
use Rattle.mrp_item.specs.declared.order.Order.{Order}
use Rattle.mrp_item.specs.declared.order.OrderKind.TheVariants.{Firm, Planned as Made}
use Rattle.mrp_item.specs.declared.supplies.Supplied.{Supplied}
use Rattle.mrp_item.specs.declared.supplies.Supplied.TheVariants as supplied
use Rattle.mrp_item.specs.Dues.{receipt_due}
use Rattle.mrp_item.specs.Inputs.{Inputs, count, horizon, item_at}
use Rattle.mrp_item.specs.Orders.{firm_orders, order_of, orders_due, orders_of, planned_order}
use Rattle.mrp_item.specs.Plan.{HasParents, IsRanked, Outcome, Planned, Over, Blocked, outcome_of, plan_in, receipts_of}
use Rattle.mrp_item.specs.Rows.{firm_rows, on_hand, open_receipts}
use Rattle.mrp_item.specs.Supplies.{due_supply, order_supply, stock_supply, supplies_in, supplies_of, supplies_to_come}
use Rattle.mrp_peg.specs.declared.peg.Need.{Need}
use Rattle.mrp_peg.specs.declared.peg.NeedKind.{NeedKind}
use Rattle.mrp_peg.specs.declared.peg.NeedKind.TheVariants as kind
use Rattle.mrp_peg.specs.declared.peg.Peg.{Peg}
use Rattle.mrp_peg.specs.declared.peg.Cause.{Cause}
use Rattle.mrp_peg.specs.declared.peg.Cause.TheVariants as cause
use Rattle.mrp_peg.specs.Causes.{EndsIn, IsCause, Leads, is_need_of, is_order, need_or_surplus_cause, own_cause, same_kind, same_need, sources_of, surplus_cause}
use Rattle.mrp_peg.specs.Matching.{amount_offered}
use Rattle.mrp_item.specs.Own.{own_gross}
use Rattle.mrp_peg.specs.Own.{IsOwn}
use Rattle.mrp_peg.specs.Pegging.{orders_in, pegs_of, requirements, supplies}
use Rattle.mrp_peg.specs.Units.{Amount}
use Rattle.mrp_peg.proofs.ItemSums.{to-supplies}
use Rattle.mrp_peg.proofs.Members.{here, in_filter, in_flat_map, in_map, nothing, only, some_one, split, there, to_filter, to_flat_map}
use Rattle.mrp_peg.proofs.Orders.{to_source}
use Rattle.mrp_peg.proofs.Own.{all_due, orders-own, own}
use Rattle.mrp_peg.proofs.Served.{IsOwnNeed, are_served, before, need_item, own_need, place_in}

to_map : {X Y : Type 0} (f : X → Y) (xs : List X) (x : X) → Contains xs x → Contains (map f xs) (f x)
to_map f [] x inside = absurd (nothing x inside)
to_map {X} {Y} f (z ∷ xs) x inside = by (λ rest. to_map f xs x rest) (split z x xs inside)
  where
    by : (Contains xs x → Contains (map f xs) (f x)) → (z ≡ x) ⊎ Contains xs x → Contains (f z ∷ map f xs) (f x)
    by more (inl is) = here (f z) (f x) (map f xs) (ap f is)
    by more (inr rest) = there (f z) (f x) (map f xs) (more rest)

in_numbered : {X : Type 0} (n : ℕ) (xs : List X) (x : ℕ × X) → Contains (enumerate_from n xs) x → Contains xs x.1
in_numbered {X} n xs x (k, within, is) =
    let low : k < length xs = omega (arith, within, length-enumerate_from n xs) in
    (k, low, sym (ap (λ (y : ℕ × X). y.1) (get_or-enumerate_from n xs k x low)) ∙ ap (λ (y : ℕ × X). y.1) is)

at_most : {X : Type 0} (f : X → ℕ) (xs : List X) (x : X) → Contains xs x → f x ≤ sum_by f xs
at_most {X} f xs x (k, within, is) =
    let P : X → Type 0 = λ y. f y ≤ sum_by f xs in
    subst P is (get_or-le-sum_by f xs k x within)

some_of : {X : Type 0} (f : X → ℕ) (xs : List X) → 0 < sum_by f xs → (x : X) × Contains xs x
some_of f [] more = absurd (omega (arith, more))
some_of f (x ∷ xs) more = (x, here x x xs refl)

-- each row of the master schedule has pieces
abbrev pub HasPieces : Inputs → Type 0
HasPieces s = All (λ (r : MasterRow). 0 < r.quantity) s.tables.master

-- so each order has
order_pieces : (s : Inputs) (i : ℕ) (receipts : List ℕ) (o : Order) → HasPieces s → Contains (orders_of s i receipts) o → 0 < o.quantity
order_pieces s i receipts o rows inside =
    let (week, among, has) = in_flat_map (orders_due s i receipts) (weeks (horizon s)) o inside in
    by week (Contains-append_cases (firm_orders s i week) (planned_order s.tables (item_at s i) week (in_week receipts (week - 1)) (in_week receipts week)) o has)
  where
    planned : (week low high : ℕ) (b : Bool) → nat_lt low high ≡ b → Contains (if b then order_of s.tables (item_at s i) Made week (high - low) ∷ [] else []) o → 0 < o.quantity
    planned week low high true more has =
        let is : order_of s.tables (item_at s i) Made week (high - low) ≡ o = only (order_of s.tables (item_at s i) Made week (high - low)) o has in
        let same : high - low ≡ o.quantity = ap (λ (x : Order). x.quantity) is in
        omega (arith, ltb-true low high more, same)
    planned week low high false none has = absurd (nothing o has)

    by : (week : ℕ) → Contains (firm_orders s i week) o ⊎ Contains (planned_order s.tables (item_at s i) week (in_week receipts (week - 1)) (in_week receipts week)) o → 0 < o.quantity
    by week (inl has) =
        let (r, listed, is) = in_map (λ (r : MasterRow). order_of s.tables (item_at s i) Firm week r.quantity) (firm_rows s i week) o has in
        let (row, passes) = in_filter (λ (r : MasterRow). (r.item == i) && (r.week == week) && is_firm r.kind) s.tables.master r listed in
        let some : 0 < r.quantity = All-contains (λ (x : MasterRow). 0 < x.quantity) s.tables.master r rows row in
        let same : r.quantity ≡ o.quantity = ap (λ (x : Order). x.quantity) is in
        omega (arith, some, same)
    by week (inr has) = planned week (in_week receipts (week - 1)) (in_week receipts week) (nat_lt (in_week receipts (week - 1)) (in_week receipts week)) refl has

-- an order of the plan has pieces and is due in a week of the horizon
order_is : (s : Inputs) (code : ℕ → ℕ) → IsRanked s code → HasPieces s → (i : ℕ) (o : Order) → Contains (plan_in (outcome_of s i)).orders o → (0 < o.quantity) × IsInRange 1 (horizon s) o.due
order_is s code ranked rows i o inside = by (outcome_of s i) refl
  where
    by : (out : Outcome) → outcome_of s i ≡ out → (0 < o.quantity) × IsInRange 1 (horizon s) o.due
    by (Planned plan) is =
        let mine : IsOwn s i = own s i code plan ranked is in (
          order_pieces s i (receipts_of s i (own_gross s i)) o rows (subst (λ (os : List Order). Contains os o) (orders-own s i mine) inside),
          All-contains (λ (x : Order). IsInRange 1 (horizon s) x.due) (plan_in (outcome_of s i)).orders o (all_due s i mine) inside,
        )
    by Over is = absurd (nothing o (subst (λ (out : Outcome). Contains (plan_in out).orders o) is inside))
    by Blocked is = absurd (nothing o (subst (λ (out : Outcome). Contains (plan_in out).orders o) is inside))

-- it is among the supplies of its item
supplied_order : (s : Inputs) (i : ℕ) (n : ℕ × Order) → Contains (orders_in s i) n → IsInRange 1 (horizon s) n.1.due → Contains (supplies s i) (amount_offered (order_supply n.0 n.1))
unfolding supplies
supplied_order s i n inside due =
    let orders = (plan_in (outcome_of s i)).orders in
    let week = n.1.due in
    let kept : List (ℕ × Order) = filter (λ (o : ℕ × Order). o.1.due == week) (enumerate_from 1 orders) in
    let listed : Contains (map (λ (o : ℕ × Order). order_supply o.0 o.1) kept) (order_supply n.0 n.1) =
    to_map (λ (o : ℕ × Order). order_supply o.0 o.1) kept n (to_filter (λ (o : ℕ × Order). o.1.due == week) (enumerate_from 1 orders) n inside (eq-eqb week week refl)) in
    let comes : Contains (supplies_in s i orders week) (order_supply n.0 n.1) =
    Contains-append_right (map (λ (r : Receipt). due_supply (receipt_due r)) (open_receipts s i week)) (map (λ (o : ℕ × Order). order_supply o.0 o.1) kept) (order_supply n.0 n.1) listed in
    let within : Contains (weeks (horizon s)) week =
    (week - 1, omega (arith, due.0, due.1, length-range_with_len 1 (horizon s)), get_or-range_with_len 1 (horizon s) (week - 1) week (omega (arith, due.0, due.1)) ∙ omega (arith, due.0)) in
    let all : Contains (supplies_of s i orders) (order_supply n.0 n.1) =
    there (stock_supply (on_hand s i)) (order_supply n.0 n.1) (supplies_to_come s i orders) (to_flat_map (supplies_in s i orders) (weeks (horizon s)) week (order_supply n.0 n.1) within comes) in
    to_map amount_offered (supplies_of s i orders) (order_supply n.0 n.1) all

-- and some peg is of it
order_peg : (s : Inputs) (i : ℕ) (n : ℕ × Order) → 0 < n.1.quantity → Contains (supplies s i) (amount_offered (order_supply n.0 n.1)) → (g : Peg) × Contains (pegs_of s i) g × (is_order n.0 g.supply ≡ true)
order_peg s i n some inside =
    let offered : List (Amount Supplied) = filter (λ (a : Amount Supplied). is_order n.0 a.of) (supplies s i) in
    let among : Contains offered (amount_offered (order_supply n.0 n.1)) = to_filter (λ (a : Amount Supplied). is_order n.0 a.of) (supplies s i) (amount_offered (order_supply n.0 n.1)) inside (eq-eqb n.0 n.0 refl) in
    let enough : n.1.quantity ≤ sum_by (λ (a : Amount Supplied). a.quantity) offered = at_most (λ (a : Amount Supplied). a.quantity) offered (amount_offered (order_supply n.0 n.1)) among in
    let sums : sum_by (λ (g : Peg). g.quantity) (filter (λ (g : Peg). is_order n.0 g.supply) (pegs_of s i)) ≡ sum_by (λ (a : Amount Supplied). a.quantity) offered = to-supplies s i (is_order n.0) in
    let (g, has) = some_of (λ (g : Peg). g.quantity) (filter (λ (g : Peg). is_order n.0 g.supply) (pegs_of s i)) (omega (arith, some, enough, sums)) in
    let (pegged, is) = in_filter (λ (g : Peg). is_order n.0 g.supply) (pegs_of s i) g has in
    (g, pegged, is)

one_kind : (k l : NeedKind) → same_kind k l ≡ true → k ≡ l
one_kind (kind.Booking m) (kind.Booking n) e = let same = eqb-true m n e in λ k. kind.Booking (same k)
one_kind (kind.Booking m) kind.Forecast e = let f : false ≡ true = e in absurd (cc)
one_kind (kind.Booking m) (kind.Service n) e = let f : false ≡ true = e in absurd (cc)
one_kind (kind.Booking m) (kind.Parent other n) e = let f : false ≡ true = e in absurd (cc)
one_kind kind.Forecast (kind.Booking n) e = let f : false ≡ true = e in absurd (cc)
one_kind kind.Forecast kind.Forecast e = refl
one_kind kind.Forecast (kind.Service n) e = let f : false ≡ true = e in absurd (cc)
one_kind kind.Forecast (kind.Parent other n) e = let f : false ≡ true = e in absurd (cc)
one_kind (kind.Service m) (kind.Booking n) e = let f : false ≡ true = e in absurd (cc)
one_kind (kind.Service m) kind.Forecast e = let f : false ≡ true = e in absurd (cc)
one_kind (kind.Service m) (kind.Service n) e = let same = eqb-true m n e in λ k. kind.Service (same k)
one_kind (kind.Service m) (kind.Parent other n) e = let f : false ≡ true = e in absurd (cc)
one_kind (kind.Parent line m) (kind.Booking n) e = let f : false ≡ true = e in absurd (cc)
one_kind (kind.Parent line m) kind.Forecast e = let f : false ≡ true = e in absurd (cc)
one_kind (kind.Parent line m) (kind.Service n) e = let f : false ≡ true = e in absurd (cc)
one_kind (kind.Parent line m) (kind.Parent other n) e =
    let parts = and_parts (line == other) (m == n) e in
    let first = eqb-true line other parts.0 in
    let second = eqb-true m n parts.1 in
    λ k. kind.Parent (first k) (second k)

one_need : (a b : Need) → same_need a b ≡ true → a ≡ b
one_need a b e =
    let parts = and_parts (a.item == b.item) ((a.week == b.week) && same_kind a.kind b.kind) e in
    let rest = and_parts (a.week == b.week) (same_kind a.kind b.kind) parts.1 in
    let items = eqb-true a.item b.item parts.0 in
    let weeks_are = eqb-true a.week b.week rest.0 in
    let kinds = one_kind a.kind b.kind rest.1 in
    λ k. record { item = items k; week = weeks_are k; kind = kinds k }

surplus_there : (i number : ℕ) (x : Supplied) → is_order number x ≡ true → (c : Cause) × (surplus_cause i x ≡ Some c)
surplus_there i number supplied.Stock e = let f : false ≡ true = e in absurd (cc)
surplus_there i number (supplied.Receipt r) e = let f : false ≡ true = e in absurd (cc)
surplus_there i number (supplied.Order n) e = (cause.Surplus i n, refl)

-- what a source leads to, and what that ends in
led : (s : Inputs) (m : Need) (g : Peg) (via : Need) → Contains (sources_of s m) g → g.need ≡ Some via → (steps : ℕ) (n : Need) → Leads s steps via n → Leads s (suc steps) m n
led s m g via sourced at zero n same = (m, g, refl, sourced, at ∙ ap (λ (x : Need). Some x) same)
led s m g via sourced at (suc steps) n (x, h, leads, inside, serves) = (x, h, led s m g via sourced at steps x leads, inside, serves)

ends_too : (s : Inputs) (m : Need) (g : Peg) (via : Need) (c : Cause) → Contains (sources_of s m) g → g.need ≡ Some via → (own_cause via via.kind ≡ Some c) ⊎ EndsIn s via c → EndsIn s m c
ends_too s m g via c sourced at (inl own_is) = (0, m, g, refl, sourced, ap (need_or_surplus_cause g) at ∙ own_is)
ends_too s m g via c sourced at (inr (steps, n, h, leads, inside, told)) = (suc steps, n, h, led s m g via sourced at steps n leads, inside, told)

-- a peg of the order that a requirement is for
record HasSource (s : Inputs) (place : ℕ → ℕ) (m : Need) : Type 0 where
  order : ℕ × ℕ
  peg : Peg
  small : order.0 < count s
  above : place order.0 < place m.item
  pegged : Contains (pegs_of s order.0) peg
  serves : is_order order.1 peg.supply ≡ true
  sourced : Contains (sources_of s m) peg

module _ (s : Inputs) (order : List ℕ) (is : IsOrder s.tables.bills (count s) order) (code : ℕ → ℕ) (ranked : IsRanked s code) (rows : HasPieces s) (parents : HasParents s) where
  source_there : (m : Need) → is_need_of s m ≡ true → own_cause m m.kind ≡ None → HasSource s (place_in order) m
  source_there m has alone =
      let (small, listed) = and_parts (nat_lt m.item (count s)) (list_any (λ (a : Amount Need). same_need a.of m) (requirements s m.item)) has in
      let (a, among, same) = some_one (λ (a : Amount Need). same_need a.of m) (requirements s m.item) listed in
      let mine : IsOwnNeed s m.item m = subst (IsOwnNeed s m.item) (one_need a.of m same) (own_need s m.item a among) in
      let (e, whose, (o, ordered)) = mine.ordered alone in
      let link = mine.above e whose in
      let low = parents e.0 m.item link in
      let (some, due) = order_is s code ranked rows e.0 o (in_numbered 1 (plan_in (outcome_of s e.0)).orders (e.1, o) ordered) in
      let (g, pegged, serves) = order_peg s e.0 (e.1, o) some (supplied_order s e.0 (e.1, o) ordered due) in
      record {
        order = e;
        peg = g;
        small = low;
        above = before s order is e.0 m.item low (ltb-true m.item (count s) small) link;
        pegged = pegged;
        serves = serves;
        sourced = to_source s m g e has whose pegged serves;
      }

  step : (fuel : ℕ) (m : Need) → ((n : Need) → place_in order n.item < fuel → is_need_of s n ≡ true → (c : Cause) × IsCause s n c)
      → place_in order m.item < suc fuel → is_need_of s m ≡ true → own_cause m m.kind ≡ None → (c : Cause) × IsCause s m c
  step fuel m more low has alone = by so.peg.need refl
    where
      so : HasSource s (place_in order) m
      so = source_there m has alone

      by : (o : Option Need) → so.peg.need ≡ o → (c : Cause) × IsCause s m c
      by None at =
          let (c, told) = surplus_there so.peg.item so.order.1 so.peg.supply so.serves in
          (c, (has, inr (0, m, so.peg, refl, so.sourced, ap (need_or_surplus_cause so.peg) at ∙ told)))
      by (Some via) at =
          let served = are_served s order is parents so.order.0 so.peg via so.small so.pegged at in
          let item : via.item ≡ so.order.0 = need_item s so.order.0 so.peg via so.pegged at in
          let (c, (there_is, why)) = more via (omega (arith, low, so.above, ap (place_in order) item)) served.has in
          (c, (has, inr (ends_too s m so.peg via c so.sourced at why)))

  pub caused : (fuel : ℕ) (m : Need) → place_in order m.item < fuel → is_need_of s m ≡ true → (c : Cause) × IsCause s m c
  caused zero m low has = absurd (omega (arith, low))
  caused (suc fuel) m low has = by (λ n lower there_is. caused fuel n lower there_is) (own_cause m m.kind) refl
    where
      by : ((n : Need) → place_in order n.item < fuel → is_need_of s n ≡ true → (c : Cause) × IsCause s n c) → (o : Option Cause) → own_cause m m.kind ≡ o → (c : Cause) × IsCause s m c
      by more (Some c) alone = (c, (has, inl alone))
      by more None alone = step fuel m more low has alone
