-- The walk up from a requirement, over an order of all items in which parents stand before their components.
use Rattle.std.proofs.Common.{◌≡◌, ◌∙◌, ℕ, zero, suc, ◌-◌, ◌<◌, ◌≤◌, ◌==◌, true, List, [], length, get_or, refl, sym, ap, arith, subst, Option, Some, None, eq-eqb}
use Rattle.std.specs.Prelude.{All, Contains, fold, ◌&&◌, option_to_list, slice_index}
use Rattle.std.proofs.lemmas.Bool.{and_from}
use Rattle.std.proofs.lemmas.List.Elements.{Contains-get_or}
use Rattle.mrp_tables.specs.declared.rows.BillLine.{BillLine}
use Rattle.mrp_bill.specs.Bill.{IsOrder}
use Rattle.mrp_item.specs.Inputs.{Inputs, count}
use Rattle.mrp_item.specs.Plan.{HasParents}
use Rattle.mrp_peg.specs.declared.peg.Need.{Need}
use Rattle.mrp_peg.specs.declared.peg.Cause.{Cause}
use Rattle.mrp_peg.specs.Causes.{is_need_of, order_for}
use Rattle.mrp_peg.specs.Ends.{AreEnds}
use Rattle.mrp_peg.specs.Walk.{followed, same_order, with_any, with_order, with_told, AreAmong, AreMarked}
use Rattle.mrp_peg.proofs.Members.{any_at, here, nothing}
use Rattle.mrp_peg.proofs.Sourced.{order_within}
use Rattle.mrp_peg.proofs.Served.{are_served, at_place, ends_here, one_at, place_in, placed}
use Rattle.mrp_peg.proofs.Walked.{IsWalked, all_found, marked, one_more}
use Rattle.mrp_peg.proofs.Orders.{of_order}

-- each line's parent is an item
all_parents : (s : Inputs) → HasParents s → All (λ (l : BillLine). l.parent < count s) s.tables.bills
all_parents s parents k d within =
    let line : BillLine = get_or s.tables.bills k d in
    parents line.parent line.component (any_at (λ (l : BillLine). (l.parent == line.parent) && (l.component == line.component)) s.tables.bills line (Contains-get_or s.tables.bills k d within) (and_from (line.parent == line.parent) (line.component == line.component) (eq-eqb line.parent line.parent refl) (eq-eqb line.component line.component refl)))

-- the orders that a walk begins with
pub first_order : (o : Option (ℕ × ℕ)) → with_any same_order [] o ≡ option_to_list o
first_order None = refl
first_order (Some e) = refl

among : {X : Type 0} (o : Option X) (e : X) → Contains (option_to_list o) e → o ≡ Some e
among None e inside = absurd (nothing e inside)
among (Some x) e (zero, within, is) = ap (λ y. Some y) is
among (Some x) e (suc k, within, is) = absurd (omega (arith, within))

module _ (s : Inputs) (n : Need) (order : List ℕ) (is : IsOrder s.tables.bills (count s) order) where
  -- before the walk
  pub begun : HasParents s → is_need_of s n ≡ true
      → IsWalked s n (place_in order) (length order) (option_to_list (order_for s.tables.bills n.kind)) []
  begun parents has = record {
    start = λ e whose. subst (λ o. Contains (option_to_list o) e) (sym whose) (here e e [] refl);
    within = λ e inside. within e inside;
    reached = λ e inside. (0, n, refl, has, among (order_for s.tables.bills n.kind) e inside);
    ended = λ c inside. absurd (nothing c inside);
    passed = λ e g high inside own serves. absurd (let (low, at) = placed s order is e.0 (within e inside) in omega (arith, high, low));
  }
    where
      within : (e : ℕ × ℕ) → Contains (option_to_list (order_for s.tables.bills n.kind)) e → e.0 < count s
      within e inside = order_within s.tables.bills (count s) (all_parents s parents) n.kind e (among (order_for s.tables.bills n.kind) e inside)

  pub begun_with : HasParents s → is_need_of s n ≡ true → (first orders : List (ℕ × ℕ)) (causes : List Cause) → first ≡ [] → orders ≡ with_any same_order first (order_for s.tables.bills n.kind) → causes ≡ []
      → IsWalked s n (place_in order) (length order) orders causes
  begun_with parents has first orders causes empty are none =
      subst (λ (x : List (ℕ × ℕ)). IsWalked s n (place_in order) (length order) x causes)
      (sym (are ∙ ap (λ (x : List (ℕ × ℕ)). with_any same_order x (order_for s.tables.bills n.kind)) empty ∙ first_order (order_for s.tables.bills n.kind)))
      (subst (λ (x : List Cause). IsWalked s n (place_in order) (length order) (option_to_list (order_for s.tables.bills n.kind)) x) (sym none) (begun parents has))

  next : HasParents s → (k : ℕ) (orders : List (ℕ × ℕ)) (causes : List Cause) → k < length order → IsWalked s n (place_in order) (suc k) orders causes
      → IsWalked s n (place_in order) k (fold (with_order s.tables.bills) orders (followed s orders (slice_index order k))) (fold with_told causes (followed s orders (slice_index order k)))
  next parents k orders causes within so =
      one_more s n (place_in order) k (slice_index order k) orders causes (are_served s order is parents) (is.all.items k 0 within) (at_place s order is k within) (one_at s order is k) so

  -- one item of it
  pub stepped : HasParents s → (left : ℕ) (orders : List (ℕ × ℕ)) (causes : List Cause) → 0 < left → left ≤ length order → IsWalked s n (place_in order) left orders causes
      → IsWalked s n (place_in order) (left - 1) (fold (with_order s.tables.bills) orders (followed s orders (slice_index order (left - 1)))) (fold with_told causes (followed s orders (slice_index order (left - 1))))
  stepped parents left orders causes some high so =
      let e : left ≡ suc (left - 1) = omega (arith, some) in
      next parents (left - 1) orders causes (omega (arith, some, high)) (subst (λ k. IsWalked s n (place_in order) k orders causes) e so)

  -- and what it gives
  pub walked_on : HasParents s → (left : ℕ) (orders more_orders : List (ℕ × ℕ)) (causes more_causes : List Cause) → 0 < left → left ≤ length order → IsWalked s n (place_in order) left orders causes
      → more_orders ≡ fold (with_order s.tables.bills) orders (followed s orders (slice_index order (left - 1))) → more_causes ≡ fold with_told causes (followed s orders (slice_index order (left - 1)))
      → IsWalked s n (place_in order) (left - 1) more_orders more_causes
  walked_on parents left orders more_orders causes more_causes some high so are_orders are_causes =
      subst (λ (x : List (ℕ × ℕ)). IsWalked s n (place_in order) (left - 1) x more_causes) (sym are_orders)
      (subst (λ (x : List Cause). IsWalked s n (place_in order) (left - 1) (fold (with_order s.tables.bills) orders (followed s orders (slice_index order (left - 1)))) x) (sym are_causes)
      (stepped parents left orders causes some high so))

  -- each cause is the end of pegs of an item that was visited
  pub visited : (orders : List (ℕ × ℕ)) (causes : List Cause) (items : List ℕ) → IsWalked s n (place_in order) 0 orders causes → AreMarked orders items → AreAmong causes items
  visited orders causes items so marks c inside =
      let (steps, m, g, leads, sourced, told) = so.ended c inside in
      let (e, has, whose, own, serves) = of_order s m g sourced in
      subst (Contains items) (sym (ends_here s e.0 g c own told)) (marks e (marked s n (place_in order) orders causes so steps m leads e whose))

  -- after all items
  pub finished : (orders : List (ℕ × ℕ)) (causes : List Cause) → IsWalked s n (place_in order) 0 orders causes → AreEnds s n causes
  finished orders causes so = record {
    ended = so.ended;
    all = all_found s n (place_in order) orders causes so;
  }
