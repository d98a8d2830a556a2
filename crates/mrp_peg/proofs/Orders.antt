-- Orders by item and number, causes, and the sources of a requirement.
use Rattle.std.proofs.Common.{◌≡◌, ℕ, ◌==◌, Bool, true, false, List, [], refl, sym, ap, subst, Option, Some, None, eqb-true, eq-eqb}
use Rattle.std.specs.Prelude.{Contains, if◌then◌else◌}
use Rattle.std.proofs.lemmas.Bool.{and_parts, and_from}
use Rattle.mrp_peg.specs.declared.peg.Need.{Need}
use Rattle.mrp_item.specs.declared.supplies.Supplied.{Supplied}
use Rattle.mrp_item.specs.declared.supplies.Supplied.TheVariants as supplied
use Rattle.mrp_peg.specs.declared.peg.Peg.{Peg}
use Rattle.mrp_peg.specs.declared.peg.Cause.{Cause}
use Rattle.mrp_peg.specs.declared.peg.Cause.TheVariants as cause
use Rattle.mrp_item.specs.Inputs.{Inputs}
use Rattle.mrp_peg.specs.Pegging.{pegs_of}
use Rattle.mrp_peg.specs.Causes.{is_need_of, is_order, order_for, order_pegs, same_cause, sources_of}
use Rattle.mrp_peg.specs.Walk.{is_reached, same_order}
use Rattle.mrp_peg.proofs.Members.{any_at, in_filter, nothing, some_one, to_filter}

pub one_order : (a b : ℕ × ℕ) → same_order a b ≡ true → a ≡ b
one_order a b e =
    let parts = and_parts (a.0 == b.0) (a.1 == b.1) e in
    let first = eqb-true a.0 b.0 parts.0 in
    let second = eqb-true a.1 b.1 parts.1 in
    λ k. (first k, second k)

pub one_cause : (c d : Cause) → same_cause c d ≡ true → c ≡ d
one_cause (cause.Booking i m) (cause.Booking j n) e =
    let parts = and_parts (i == j) (m == n) e in
    let first = eqb-true i j parts.0 in
    let second = eqb-true m n parts.1 in
    λ k. cause.Booking (first k) (second k)
one_cause (cause.Booking i m) (cause.Forecast j n) e = let f : false ≡ true = e in absurd (cc)
one_cause (cause.Booking i m) (cause.Service j n) e = let f : false ≡ true = e in absurd (cc)
one_cause (cause.Booking i m) (cause.Surplus j n) e = let f : false ≡ true = e in absurd (cc)
one_cause (cause.Forecast i m) (cause.Booking j n) e = let f : false ≡ true = e in absurd (cc)
one_cause (cause.Forecast i m) (cause.Forecast j n) e =
    let parts = and_parts (i == j) (m == n) e in
    let first = eqb-true i j parts.0 in
    let second = eqb-true m n parts.1 in
    λ k. cause.Forecast (first k) (second k)
one_cause (cause.Forecast i m) (cause.Service j n) e = let f : false ≡ true = e in absurd (cc)
one_cause (cause.Forecast i m) (cause.Surplus j n) e = let f : false ≡ true = e in absurd (cc)
one_cause (cause.Service i m) (cause.Booking j n) e = let f : false ≡ true = e in absurd (cc)
one_cause (cause.Service i m) (cause.Forecast j n) e = let f : false ≡ true = e in absurd (cc)
one_cause (cause.Service i m) (cause.Service j n) e =
    let parts = and_parts (i == j) (m == n) e in
    let first = eqb-true i j parts.0 in
    let second = eqb-true m n parts.1 in
    λ k. cause.Service (first k) (second k)
one_cause (cause.Service i m) (cause.Surplus j n) e = let f : false ≡ true = e in absurd (cc)
one_cause (cause.Surplus i m) (cause.Booking j n) e = let f : false ≡ true = e in absurd (cc)
one_cause (cause.Surplus i m) (cause.Forecast j n) e = let f : false ≡ true = e in absurd (cc)
one_cause (cause.Surplus i m) (cause.Service j n) e = let f : false ≡ true = e in absurd (cc)
one_cause (cause.Surplus i m) (cause.Surplus j n) e =
    let parts = and_parts (i == j) (m == n) e in
    let first = eqb-true i j parts.0 in
    let second = eqb-true m n parts.1 in
    λ k. cause.Surplus (first k) (second k)

pub own_cause_is : (c : Cause) → same_cause c c ≡ true
own_cause_is (cause.Booking i m) = and_from (i == i) (m == m) (eq-eqb i i refl) (eq-eqb m m refl)
own_cause_is (cause.Forecast i m) = and_from (i == i) (m == m) (eq-eqb i i refl) (eq-eqb m m refl)
own_cause_is (cause.Service i m) = and_from (i == i) (m == m) (eq-eqb i i refl) (eq-eqb m m refl)
own_cause_is (cause.Surplus i m) = and_from (i == i) (m == m) (eq-eqb i i refl) (eq-eqb m m refl)

-- an order that was reached is one of the orders
pub reached_order : (orders : List (ℕ × ℕ)) (i : ℕ) (supply : Supplied) → is_reached orders i supply ≡ true
    → (number : ℕ) × (is_order number supply ≡ true) × Contains orders (i, number)
reached_order orders i supplied.Stock e = let f : false ≡ true = e in absurd (cc)
reached_order orders i (supplied.Receipt r) e = let f : false ≡ true = e in absurd (cc)
reached_order orders i (supplied.Order number) e =
    let (x, inside, is) = some_one (same_order (i, number)) orders e in
    (number, eq-eqb number number refl, subst (Contains orders) (sym (one_order (i, number) x is)) inside)

pub is_reached-order : (orders : List (ℕ × ℕ)) (i number : ℕ) (supply : Supplied) → is_order number supply ≡ true → Contains orders (i, number) → is_reached orders i supply ≡ true
is_reached-order orders i number supplied.Stock e inside = let f : false ≡ true = e in absurd (cc)
is_reached-order orders i number (supplied.Receipt r) e inside = let f : false ≡ true = e in absurd (cc)
is_reached-order orders i number (supplied.Order n) e inside =
    let same = eqb-true n number e in
    any_at (same_order (i, n)) orders (i, number) inside (and_from (i == i) (n == number) (eq-eqb i i refl) e)

-- a source of a requirement of the plan is a peg of the parent's order
pub of_order : (s : Inputs) (m : Need) (g : Peg) → Contains (sources_of s m) g
    → (e : ℕ × ℕ) × (is_need_of s m ≡ true) × (order_for s.tables.bills m.kind ≡ Some e) × Contains (pegs_of s e.0) g × (is_order e.1 g.supply ≡ true)
unfolding sources_of
of_order s m g inside = by (is_need_of s m) refl inside
  where
    pegged : (o : Option (ℕ × ℕ)) → order_for s.tables.bills m.kind ≡ o → is_need_of s m ≡ true → Contains (order_pegs s o) g
        → (e : ℕ × ℕ) × (is_need_of s m ≡ true) × (order_for s.tables.bills m.kind ≡ Some e) × Contains (pegs_of s e.0) g × (is_order e.1 g.supply ≡ true)
    pegged None is has inside = absurd (nothing g inside)
    pegged (Some e) is has inside =
        let (own, serves) = in_filter (λ (x : Peg). is_order e.1 x.supply) (pegs_of s e.0) g inside in
        (e, has, is, own, serves)

    by : (b : Bool) → is_need_of s m ≡ b → Contains (if b then order_pegs s (order_for s.tables.bills m.kind) else []) g
        → (e : ℕ × ℕ) × (is_need_of s m ≡ true) × (order_for s.tables.bills m.kind ≡ Some e) × Contains (pegs_of s e.0) g × (is_order e.1 g.supply ≡ true)
    by true has inside = pegged (order_for s.tables.bills m.kind) refl has inside
    by false has inside = absurd (nothing g inside)

pub to_source : (s : Inputs) (m : Need) (g : Peg) (e : ℕ × ℕ) → is_need_of s m ≡ true → order_for s.tables.bills m.kind ≡ Some e
    → Contains (pegs_of s e.0) g → is_order e.1 g.supply ≡ true → Contains (sources_of s m) g
unfolding sources_of
to_source s m g e has is inside serves =
    let own : Contains (order_pegs s (Some e)) g = to_filter (λ (x : Peg). is_order e.1 x.supply) (pegs_of s e.0) g inside serves in
    let P : Bool → Type 0 = λ b. Contains (if b then order_pegs s (order_for s.tables.bills m.kind) else []) g in
    let Q : Option (ℕ × ℕ) → Type 0 = λ o. Contains (order_pegs s o) g in
    subst P (sym has) (subst Q (sym is) own)

-- a requirement that is for no parent's order has no source
pub no_source : (s : Inputs) (m : Need) → order_for s.tables.bills m.kind ≡ None → sources_of s m ≡ []
unfolding sources_of
no_source s m none = by (is_need_of s m)
  where
    by : (b : Bool) → (if b then order_pegs s (order_for s.tables.bills m.kind) else []) ≡ []
    by true = ap (order_pegs s) none
    by false = refl
