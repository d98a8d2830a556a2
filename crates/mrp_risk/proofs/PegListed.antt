-- Lists of the pegs that each order supplies.
use Rattle.std.proofs.Common.{◌≡◌, ◌≢◌, ◌⊎◌, inl, inr, ℕ, ◌+◌, ◌<◌, ◌≤◌, List, [], ◌∷◌, ◌++◌, length, refl, sym, ap, subst, ◌∙◌, arith}
use Rattle.std.specs.Prelude.{Option, Some, None, IfSome, replicate}
use Rattle.std.proofs.Math.ListN.{set}
use Rattle.std.proofs.lemmas.Bool.{cases_eq, cases_lt}
use Rattle.std.proofs.lemmas.List.{get_or-replicate, length-replicate, get_or-set_same, get_or-set_other, length-set, length-append, get_or_push, get_or_append_left}
use Rattle.std.proofs.lemmas.Option.{none-some, same_Some}
use Rattle.mrp_risk.specs.declared.peg.Need.TheVariants.{Order}
use Rattle.mrp_risk.specs.declared.peg.Peg.{Peg}
use Rattle.mrp_risk.specs.Chains.{peg_at}
use Rattle.mrp_risk.specs.Marks.{IsMarked, HasPassed}
use Rattle.mrp_risk.specs.PegLists.{last_at, last_of, last_after, IsLastSupplied, AreListsTo}

-- one more peg, of another order
last-passes : (pegs : List Peg) (order end : ℕ) (place : Option ℕ) → IsLastSupplied pegs order end place → (peg_at pegs end).supply ≢ Some order → IsLastSupplied pegs order (end + 1) place
last-passes pegs order end None none other = λ k below is. by k below is (cases_lt k end)
  where
    by : (k : ℕ) → k < end + 1 → (peg_at pegs k).supply ≡ Some order → (k < end) ⊎ (end ≤ k) → ⊥
    by k below is (inl less) = none k less is
    by k below is (inr most) =
        let same : end ≡ k = omega (arith, below, most) in
        other (ap (λ (j : ℕ). (peg_at pegs j).supply) same ∙ is)
last-passes pegs order end (Some place) (inside, supplied, after) other = (omega (arith, inside), supplied, λ k more below is. by k more below is (cases_lt k end))
  where
    by : (k : ℕ) → place < k → k < end + 1 → (peg_at pegs k).supply ≡ Some order → (k < end) ⊎ (end ≤ k) → ⊥
    by k more below is (inl less) = after k more less is
    by k more below is (inr most) =
        let same : end ≡ k = omega (arith, below, most) in
        other (ap (λ (j : ℕ). (peg_at pegs j).supply) same ∙ is)

-- one more peg, of the order
last-here : (pegs : List Peg) (order end : ℕ) → (peg_at pegs end).supply ≡ Some order → IsLastSupplied pegs order (end + 1) (Some end)
last-here pegs order end is = (omega arith, is, λ k more below. absurd (omega (arith, more, below)))

-- the lists of no peg
pub lists-none : (orders : ℕ) (pegs : List Peg) → AreListsTo orders pegs 0 (replicate orders None) []
lists-none orders pegs = record {
  last_size = length-replicate orders None;
  previous_size = refl;
  of_orders = λ order inside. subst (λ (place : Option ℕ). IsLastSupplied pegs order 0 place) (sym (get_or-replicate orders order None None inside)) (λ k below. absurd (omega (arith, below)));
  of_pegs = λ k order below. absurd (omega (arith, below));
}

-- the lists of one more peg
pub lists-more : (orders : ℕ) (pegs : List Peg) (end : ℕ) (last previous : List (Option ℕ)) (supply : Option ℕ) → AreListsTo orders pegs end last previous → (peg_at pegs end).supply ≡ supply
    → IfSome supply (λ order. order < orders) → AreListsTo orders pegs (end + 1) (last_after last supply end) (previous ++ last_of last supply ∷ [])
lists-more orders pegs end last previous supply are is within = record {
  last_size = same-orders supply;
  previous_size = omega (arith, length-append previous (last_of last supply ∷ []), are.previous_size);
  of_orders = last-more supply is within;
  of_pegs = λ k order below. previous-more k order below (cases_lt k end);
}
  where
    same-orders : (supply : Option ℕ) → length (last_after last supply end) ≡ orders
    same-orders None = are.last_size
    same-orders (Some order) = length-set last order (Some end) ∙ are.last_size

    last-more : (supply : Option ℕ) → (peg_at pegs end).supply ≡ supply → IfSome supply (λ order. order < orders) → (order : ℕ) → order < orders
        → IsLastSupplied pegs order (end + 1) (last_at (last_after last supply end) order)
    last-more None is within order inside = last-passes pegs order end (last_at last order) (are.of_orders order inside) (λ e. none-some order (sym is ∙ e))
    last-more (Some own) is within order inside = by (cases_eq order own)
      where
        by : (order ≡ own) ⊎ (order ≡ own → ⊥) → IsLastSupplied pegs order (end + 1) (last_at (set last own (Some end)) order)
        by (inl same) =
            let there : own < length last = omega (arith, within, are.last_size) in
            let put : last_at (set last own (Some end)) order ≡ Some end = ap (last_at (set last own (Some end))) same ∙ get_or-set_same last own (Some end) None there in
            subst (λ (place : Option ℕ). IsLastSupplied pegs order (end + 1) place) (sym put) (last-here pegs order end (is ∙ ap (λ (o : ℕ). Some o) (sym same)))
        by (inr other) =
            let kept : last_at (set last own (Some end)) order ≡ last_at last order = get_or-set_other last own order (Some end) None other in
            subst (λ (place : Option ℕ). IsLastSupplied pegs order (end + 1) place) (sym kept)
            (last-passes pegs order end (last_at last order) (are.of_orders order inside) (λ e. other (sym (same_Some own order (sym is ∙ e)))))

    previous-more : (k order : ℕ) → k < end + 1 → (k < end) ⊎ (end ≤ k) → (peg_at pegs k).supply ≡ Some order → IsLastSupplied pegs order k (last_at (previous ++ last_of last supply ∷ []) k)
    previous-more k order below (inl less) given =
        let old : last_at (previous ++ last_of last supply ∷ []) k ≡ last_at previous k = get_or_append_left previous (last_of last supply ∷ []) None k (omega (arith, less, are.previous_size)) in
        subst (λ (place : Option ℕ). IsLastSupplied pegs order k place) (sym old) (are.of_pegs k order less given)
    previous-more k order below (inr most) given =
        let same : k ≡ end = omega (arith, below, most) in
        let put : last_at (previous ++ last_of last supply ∷ []) k ≡ last_of last supply = get_or_push previous (last_of last supply) None k (omega (arith, same, are.previous_size)) in
        let supplied : supply ≡ Some order = sym is ∙ ap (λ (j : ℕ). (peg_at pegs j).supply) (sym same) ∙ given in
        subst (λ (place : Option ℕ). IsLastSupplied pegs order k place) (sym put)
        (subst (λ (j : ℕ). IsLastSupplied pegs order j (last_of last supply)) (sym same) (own supply within order supplied))
      where
        own : (supply : Option ℕ) → IfSome supply (λ order. order < orders) → (order : ℕ) → supply ≡ Some order → IsLastSupplied pegs order end (last_of last supply)
        own None within order e = absurd (none-some order e)
        own (Some other) within order e = subst (λ (o : ℕ). IsLastSupplied pegs o end (last_at last other)) (same_Some other order e) (are.of_orders other within)

-- The pegs of an order are gone through from the last one on.

-- the orders that need pieces of an order are marked, as far as their pegs stand behind a place; that one is of the order too
abbrev pub AreMarkedAfter : List Peg → List (Option ℕ) → ℕ → Option ℕ → Type 0
AreMarkedAfter pegs marks order None = (k parent : ℕ) → k < length pegs → (peg_at pegs k).supply ≡ Some order → (peg_at pegs k).need ≡ Order parent → IsMarked marks parent
AreMarkedAfter pegs marks order (Some place) =
    (place < length pegs) × ((peg_at pegs place).supply ≡ Some order)
    × ((k parent : ℕ) → place < k → k < length pegs → (peg_at pegs k).supply ≡ Some order → (peg_at pegs k).need ≡ Order parent → IsMarked marks parent)

pub after-last : (pegs : List Peg) (marks : List (Option ℕ)) (order : ℕ) (place : Option ℕ) → IsLastSupplied pegs order (length pegs) place → AreMarkedAfter pegs marks order place
after-last pegs marks order None none = λ k parent below is need. absurd (none k below is)
after-last pegs marks order (Some place) (inside, is, after) = (inside, is, λ k parent more below supplied need. absurd (after k more below supplied))

pub after-more : (pegs : List Peg) (marks new : List (Option ℕ)) (order place : ℕ) (next : Option ℕ) → AreMarkedAfter pegs marks order (Some place)
    → ((parent : ℕ) → IsMarked marks parent → IsMarked new parent) → ((parent : ℕ) → (peg_at pegs place).need ≡ Order parent → IsMarked new parent)
    → IsLastSupplied pegs order place next → AreMarkedAfter pegs new order next
after-more pegs marks new order place next (inside, is, after) stays here last = by next last
  where
    from : (k parent : ℕ) → k < length pegs → (peg_at pegs k).supply ≡ Some order → (peg_at pegs k).need ≡ Order parent → place ≤ k → (place < k) ⊎ (k ≤ place) → IsMarked new parent
    from k parent below supplied need least (inl more) = stays parent (after k parent more below supplied need)
    from k parent below supplied need least (inr most) =
        let same : place ≡ k = omega (arith, least, most) in
        here parent (ap (λ (j : ℕ). (peg_at pegs j).need) same ∙ need)

    -- an order before the place is none, and the others are marked
    each : (k parent : ℕ) → k < length pegs → (peg_at pegs k).supply ≡ Some order → (peg_at pegs k).need ≡ Order parent → (k < place → ⊥) → (k < place) ⊎ (place ≤ k) → IsMarked new parent
    each k parent below supplied need none (inl less) = absurd (none less)
    each k parent below supplied need none (inr least) = from k parent below supplied need least (cases_lt place k)

    by : (next : Option ℕ) → IsLastSupplied pegs order place next → AreMarkedAfter pegs new order next
    by None none = λ k parent below supplied need. each k parent below supplied need (λ less. none k less supplied) (cases_lt k place)
    by (Some before) (less, given, between) =
        (omega (arith, less, inside), given, λ k parent more below supplied need. each k parent below supplied need (λ under. between k more under supplied) (cases_lt k place))

pub after-all : (pegs : List Peg) (marks : List (Option ℕ)) (order : ℕ) → AreMarkedAfter pegs marks order None → HasPassed pegs marks order
after-all pegs marks order all = λ parent (k, below, need, supplied). all k parent below supplied need

-- how many pegs of a list may still come
abbrev pub pegs_left : Option ℕ → ℕ
pegs_left None = 0
pegs_left (Some place) = place + 1

pub fewer-left : (pegs : List Peg) (order place : ℕ) (next : Option ℕ) → IsLastSupplied pegs order place next → pegs_left next < place + 1
fewer-left pegs order place None none = omega arith
fewer-left pegs order place (Some before) (less, given, between) = omega (arith, less)
