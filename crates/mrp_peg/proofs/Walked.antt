-- A walk up from a requirement, from components to parents.
use Rattle.std.proofs.Common.{◌≡◌, ◌∙◌, ◌⊎◌, ℕ, zero, suc, ◌<◌, ◌≤◌, ◌==◌, Bool, true, false, List, refl, ap, arith, inl, inr, subst, Option, Some, None, eqb-true}
use Rattle.std.proofs.lemmas.Bool.{eqb-false}
use Rattle.std.specs.Prelude.{Contains, fold}
use Rattle.mrp_peg.specs.declared.peg.Need.{Need}
use Rattle.mrp_peg.specs.declared.peg.Peg.{Peg}
use Rattle.mrp_peg.specs.declared.peg.Cause.{Cause}
use Rattle.mrp_item.specs.Inputs.{Inputs, count}
use Rattle.mrp_peg.specs.Pegging.{pegs_of}
use Rattle.mrp_peg.specs.Causes.{EndsIn, Leads, ends_in, is_need_of, is_order, order_for, same_cause, sources_of}
use Rattle.mrp_peg.specs.Walk.{followed, is_reached, order_served, same_order, with_order, with_told}
use Rattle.mrp_peg.proofs.Members.{in_all, in_filter, kept_all, new_all, to_filter}
use Rattle.mrp_peg.proofs.Orders.{is_reached-order, of_order, one_cause, one_order, reached_order, to_source}

-- what holds of a requirement that a peg of an item serves: the plan has it, and the order that it is for is a parent's
pub record IsServed (s : Inputs) (place : ℕ → ℕ) (i : ℕ) (need : Need) : Type 0 where
  pub has : is_need_of s need ≡ true
  pub above : (e : ℕ × ℕ) → order_for s.tables.bills need.kind ≡ Some e → (e.0 < count s) × (place e.0 < place i)

-- the requirements of the plan that pegs serve
abbrev pub AreServed : Inputs → (ℕ → ℕ) → Type 0
AreServed s place = (i : ℕ) (g : Peg) (via : Need) → i < count s → Contains (pegs_of s i) g → g.need ≡ Some via → IsServed s place i via

-- a peg that was passed: what it serves and what it ends in were found
pub record IsPassed (s : Inputs) (orders : List (ℕ × ℕ)) (causes : List Cause) (g : Peg) : Type 0 where
  pub order : (e : ℕ × ℕ) → order_served s.tables.bills g.need ≡ Some e → Contains orders e
  pub cause : (c : Cause) → ends_in g ≡ Some c → Contains causes c

-- what a walk has found that has passed the items that have a place from k on
pub record IsWalked (s : Inputs) (n : Need) (place : ℕ → ℕ) (k : ℕ) (orders : List (ℕ × ℕ)) (causes : List Cause) : Type 0 where
  pub start : (e : ℕ × ℕ) → order_for s.tables.bills n.kind ≡ Some e → Contains orders e
  pub within : (e : ℕ × ℕ) → Contains orders e → e.0 < count s
  pub reached : (e : ℕ × ℕ) → Contains orders e → (steps : ℕ) × (m : Need) × Leads s steps n m × (is_need_of s m ≡ true) × (order_for s.tables.bills m.kind ≡ Some e)
  pub ended : (c : Cause) → Contains causes c → EndsIn s n c
  pub passed : (e : ℕ × ℕ) (g : Peg) → k ≤ place e.0 → Contains orders e → Contains (pegs_of s e.0) g → is_order e.1 g.supply ≡ true → IsPassed s orders causes g

served_order : (s : Inputs) (place : ℕ → ℕ) (i : ℕ) (g : Peg) (e : ℕ × ℕ) → AreServed s place → i < count s → Contains (pegs_of s i) g → order_served s.tables.bills g.need ≡ Some e
    → (via : Need) × (g.need ≡ Some via) × (is_need_of s via ≡ true) × (order_for s.tables.bills via.kind ≡ Some e) × (e.0 < count s) × (place e.0 < place i)
served_order s place i g e served small inside is = by g.need refl is
  where
    by : (o : Option Need) → g.need ≡ o → order_served s.tables.bills o ≡ Some e
        → (via : Need) × (g.need ≡ Some via) × (is_need_of s via ≡ true) × (order_for s.tables.bills via.kind ≡ Some e) × (e.0 < count s) × (place e.0 < place i)
    by None at is = let none : Option (ℕ × ℕ) = None in let f : none ≡ Some e = is in absurd (cc)
    by (Some via) at is =
        let so = served i g via small inside at in
        let up = so.above e is in
        (via, at, so.has, is, up.0, up.1)

-- one more item
module _ (s : Inputs) (n : Need) (place : ℕ → ℕ) (k i : ℕ) (orders : List (ℕ × ℕ)) (causes : List Cause) (served : AreServed s place)
    (small : i < count s) (at : place i ≡ k) (one : (j : ℕ) → j < count s → place j ≡ k → j ≡ i) (so : IsWalked s n place (suc k) orders causes) where
  abbrev pegs : List Peg
  pegs = followed s orders i

  abbrev more_orders : List (ℕ × ℕ)
  more_orders = fold (with_order s.tables.bills) orders pegs

  abbrev more_causes : List Cause
  more_causes = fold with_told causes pegs

  keeps_orders : (e : ℕ × ℕ) → Contains orders e → Contains more_orders e
  keeps_orders e inside = kept_all same_order one_order (λ (g : Peg). order_served s.tables.bills g.need) pegs orders e inside

  new_orders : (e : ℕ × ℕ) → Contains more_orders e → Contains orders e ⊎ ((g : Peg) × Contains pegs g × (order_served s.tables.bills g.need ≡ Some e))
  new_orders e inside = in_all same_order one_order (λ (g : Peg). order_served s.tables.bills g.need) pegs orders e inside

  -- a peg that is followed is a source of what the walk has reached
  source : (g : Peg) → Contains pegs g → Contains (pegs_of s i) g × ((steps : ℕ) × (m : Need) × Leads s steps n m × Contains (sources_of s m) g)
  source g inside =
      let (own, is) = in_filter (λ (x : Peg). is_reached orders i x.supply) (pegs_of s i) g inside in
      let (number, serves, old) = reached_order orders i g.supply is in
      let (steps, m, leads, has, whose) = so.reached (i, number) old in
      (own, (steps, m, leads, to_source s m g (i, number) has whose own serves))

  within : (e : ℕ × ℕ) → Contains more_orders e → e.0 < count s
  within e inside = by (new_orders e inside)
    where
      by : Contains orders e ⊎ ((g : Peg) × Contains pegs g × (order_served s.tables.bills g.need ≡ Some e)) → e.0 < count s
      by (inl old) = so.within e old
      by (inr (g, follows, is)) =
          let (own, why) = source g follows in
          let (via, at, has, whose, low, before) = served_order s place i g e served small own is in
          low

  reached : (e : ℕ × ℕ) → Contains more_orders e → (steps : ℕ) × (m : Need) × Leads s steps n m × (is_need_of s m ≡ true) × (order_for s.tables.bills m.kind ≡ Some e)
  reached e inside = by (new_orders e inside)
    where
      by : Contains orders e ⊎ ((g : Peg) × Contains pegs g × (order_served s.tables.bills g.need ≡ Some e))
          → (steps : ℕ) × (m : Need) × Leads s steps n m × (is_need_of s m ≡ true) × (order_for s.tables.bills m.kind ≡ Some e)
      by (inl old) = so.reached e old
      by (inr (g, follows, is)) =
          let (own, (steps, m, leads, sourced)) = source g follows in
          let (via, at, has, whose, low, before) = served_order s place i g e served small own is in
          (suc steps, via, (m, g, leads, sourced, at), has, whose)

  ended : (c : Cause) → Contains more_causes c → EndsIn s n c
  ended c inside = by (in_all same_cause one_cause ends_in pegs causes c inside)
    where
      by : Contains causes c ⊎ ((g : Peg) × Contains pegs g × (ends_in g ≡ Some c)) → EndsIn s n c
      by (inl old) = so.ended c old
      by (inr (g, follows, is)) =
          let (own, (steps, m, leads, sourced)) = source g follows in
          (steps, m, g, leads, sourced, is)

  -- a peg that is followed is passed
  follows_passed : (g : Peg) → Contains pegs g → IsPassed s more_orders more_causes g
  follows_passed g inside = record {
    order = λ e is. new_all same_order one_order (λ (x : Peg). order_served s.tables.bills x.need) pegs orders g e inside is;
    cause = λ c is. new_all same_cause one_cause ends_in pegs causes g c inside is;
  }

  still_passed : (g : Peg) → IsPassed s orders causes g → IsPassed s more_orders more_causes g
  still_passed g old = record {
    order = λ e is. keeps_orders e (old.order e is);
    cause = λ c is. kept_all same_cause one_cause ends_in pegs causes c (old.cause c is);
  }

  passed : (e : ℕ × ℕ) (g : Peg) → k ≤ place e.0 → Contains more_orders e → Contains (pegs_of s e.0) g → is_order e.1 g.supply ≡ true → IsPassed s more_orders more_causes g
  passed e g low inside own serves = by (new_orders e inside)
    where
      now : Contains orders e → e.0 ≡ i → IsPassed s more_orders more_causes g
      now old same =
          let here : Contains (pegs_of s i) g = subst (λ j. Contains (pegs_of s j) g) same own in
          let there : Contains orders (i, e.1) = subst (λ j. Contains orders (j, e.1)) same old in
          follows_passed g (to_filter (λ (x : Peg). is_reached orders i x.supply) (pegs_of s i) g here (is_reached-order orders i e.1 g.supply serves there))

      split : Contains orders e → (b : Bool) → place e.0 == k ≡ b → IsPassed s more_orders more_causes g
      split old true same = now old (one e.0 (so.within e old) (eqb-true (place e.0) k same))
      split old false other = still_passed g (so.passed e g (omega (arith, low, eqb-false (place e.0) k other)) old own serves)

      by : Contains orders e ⊎ ((x : Peg) × Contains pegs x × (order_served s.tables.bills x.need ≡ Some e)) → IsPassed s more_orders more_causes g
      by (inl old) = split old (place e.0 == k) refl
      by (inr (x, follows, is)) =
          let (near, why) = source x follows in
          let (via, is_at, has, whose, high, before) = served_order s place i x e served small near is in
          absurd (omega (arith, low, before, at))

  pub one_more : IsWalked s n place k (fold (with_order s.tables.bills) orders (followed s orders i)) (fold with_told causes (followed s orders i))
  one_more = record {
    start = λ e is. keeps_orders e (so.start e is);
    within = within;
    reached = reached;
    ended = ended;
    passed = passed;
  }

-- the orders of all that a requirement leads to are found
pub marked : (s : Inputs) (n : Need) (place : ℕ → ℕ) (orders : List (ℕ × ℕ)) (causes : List Cause) → IsWalked s n place 0 orders causes
    → (steps : ℕ) (m : Need) → Leads s steps n m → (e : ℕ × ℕ) → order_for s.tables.bills m.kind ≡ Some e → Contains orders e
marked s n place orders causes so zero m same e is = so.start e (ap (λ (x : Need). order_for s.tables.bills x.kind) same ∙ is)
marked s n place orders causes so (suc steps) m (via, g, leads, inside, serves) e is =
    let (up, has, whose, own, supplies) = of_order s via g inside in
    let there = marked s n place orders causes so steps via leads up whose in
    (so.passed up g (omega arith) there own supplies).order e (ap (order_served s.tables.bills) serves ∙ is)

-- and so is all that it ends in, of items of the plan
pub all_found : (s : Inputs) (n : Need) (place : ℕ → ℕ) (orders : List (ℕ × ℕ)) (causes : List Cause) → IsWalked s n place 0 orders causes
    → (c : Cause) → EndsIn s n c → Contains causes c × ((i : ℕ) × (g : Peg) × (i < count s) × Contains (pegs_of s i) g × (ends_in g ≡ Some c))
all_found s n place orders causes so c (steps, m, g, leads, inside, told) =
    let (e, has, whose, own, supplies) = of_order s m g inside in
    let there = marked s n place orders causes so steps m leads e whose in
    ((so.passed e g (omega arith) there own supplies).cause c told, (e.0, g, so.within e there, own, told))
