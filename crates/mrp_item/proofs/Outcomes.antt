-- Outcomes: what they unfold to, and when they are Over and Blocked.
use Rattle.std.proofs.Common.{◌≡◌, ◌≢◌, ◌∙◌, ◌+◌, ◌<◌, ◌≤◌, ℕ, zero, suc, sym, ap, refl, arith, Bool, true, false, cond, List, [], ◌∷◌, ◌⊎◌, inl, inr, eqb}
use Rattle.std.specs.Prelude.{filter, find, map, IsTrue, ◌&&◌, ◌↔◌, Option, Some, None, Err}
use Rattle.std.specs.List.{list_all, range_with_len}
use Rattle.std.proofs.lemmas.Bool.{and_parts, eqb-true, eqb-false}
use Rattle.mrp_phase.specs.Weeks.{row}
use Rattle.mrp_bill.specs.Bill.{IsParent, IsAbove, Chain, is_parent, parents_of}
use Rattle.mrp_item.specs.Inputs.{Inputs, count, horizon, places}
use Rattle.mrp_item.specs.Plan.{Outcome, Planned, Over, Blocked, ItemPlan, HasParents, IsRanked, outcome_of, outcome_step, plan_of, plan_in, plan_unless, first_over, is_over, is_planned, judged, is_too_large, item_plan, gross_in}
use Rattle.mrp_item.proofs.Fuel.{value_to-unfolds}
use Rattle.mrp_item.proofs.Steps.{outcome_step-local}

pub outcome_of-unfolds : (s : Inputs) (code : ℕ → ℕ) → IsRanked s code → (i : ℕ) → outcome_of s i ≡ outcome_step s i (outcome_of s)
unfolding outcome_of
outcome_of-unfolds s code ranked i =
    let within : code i < suc (count s) = omega (arith, ranked.within i) in
    value_to-unfolds (IsParent s.tables.bills) (outcome_step s) Blocked code (outcome_step-local s) ranked.rises (suc (count s)) i within

-- a list that does not pass a test has an element that fails it
some-fails : (q r : ℕ → Bool) (xs : List ℕ) → list_all q (filter r xs) ≡ false → (p : ℕ) × (r p ≡ true) × (q p ≡ false)
some-fails q r [] h = absurd (cc)
some-fails q r (x ∷ xs) h = by (r x) refl (some-fails q r xs) h
  where
    rest : List ℕ
    rest = filter r xs

    one : (b : Bool) → q x ≡ b → r x ≡ true → (list_all q rest ≡ false → (p : ℕ) × (r p ≡ true) × (q p ≡ false)) → (b && list_all q rest) ≡ false → (p : ℕ) × (r p ≡ true) × (q p ≡ false)
    one true e f more k = more k
    one false e f more k = (x, f, e)

    by : (b : Bool) → r x ≡ b → (list_all q rest ≡ false → (p : ℕ) × (r p ≡ true) × (q p ≡ false)) → list_all q (cond b (x ∷ rest) rest) ≡ false → (p : ℕ) × (r p ≡ true) × (q p ≡ false)
    by true e more k = one (q x) refl e more k
    by false e more k = more k

-- if all pass, each does
each-passes : (q r : ℕ → Bool) (a n p : ℕ) → a ≤ p → p < a + n → r p ≡ true → list_all q (filter r (range_with_len a n)) ≡ true → q p ≡ true
each-passes q r a zero p low high e h = absurd (omega arith)
each-passes q r a (suc n) p low high e h = by (eqb a p) refl (r a) refl (each-passes q r (a + 1) n p) h
  where
    rest : List ℕ
    rest = filter r (range_with_len (a + 1) n)

    by : (same : Bool) → eqb a p ≡ same → (b : Bool) → r a ≡ b → (a + 1 ≤ p → p < a + 1 + n → r p ≡ true → list_all q rest ≡ true → q p ≡ true)
        → list_all q (cond b (a ∷ rest) rest) ≡ true → q p ≡ true
    by true i true f more k = ap q (sym (eqb-true a p i)) ∙ (and_parts (q a) (list_all q rest) k).0
    by true i false f more k = absurd (let z : r a ≡ true = ap r (eqb-true a p i) ∙ e in cc)
    by false i true f more k =
        let other : a ≢ p = eqb-false a p i in
        more (omega arith) (omega arith) e (and_parts (q a) (list_all q rest) k).1
    by false i false f more k =
        let other : a ≢ p = eqb-false a p i in
        more (omega arith) (omega arith) e k

is_planned-false : (o : Outcome) → is_planned o ≡ false → (o ≡ Over) ⊎ (o ≡ Blocked)
is_planned-false (Planned p) h = absurd (cc)
is_planned-false Over h = inl refl
is_planned-false Blocked h = inr refl

judged-not_blocked : (s : Inputs) (i : ℕ) (plan : ItemPlan) → judged s i plan ≡ Blocked → ⊥
judged-not_blocked s i plan h = by (is_too_large s i plan) h
  where
    by : (b : Bool) → cond b Over (Planned plan) ≡ Blocked → ⊥
    by true k = cc
    by false k = cc

judged-over : (s : Inputs) (i : ℕ) (plan : ItemPlan) → judged s i plan ≡ Over → is_too_large s i plan ≡ true
judged-over s i plan h = by (is_too_large s i plan) h
  where
    by : (b : Bool) → cond b Over (Planned plan) ≡ Over → b ≡ true
    by true k = refl
    by false k = absurd (cc)

-- whether every parent of an item is planned
abbrev pub ready : Inputs → ℕ → Bool
ready s i = list_all (λ p. is_planned (outcome_of s p)) (parents_of s.tables.bills (count s) i)

abbrev pub own_plan : Inputs → ℕ → ItemPlan
own_plan s i = item_plan s i (row (horizon s) (gross_in s i (outcome_of s)))

pub not_ready : (s : Inputs) (code : ℕ → ℕ) → IsRanked s code → (i : ℕ) → ready s i ≡ false → outcome_of s i ≡ Blocked
not_ready s code ranked i e = outcome_of-unfolds s code ranked i ∙ rw e refl

-- if every parent is planned, each is
pub parent-planned : (s : Inputs) (i p : ℕ) → ready s i ≡ true → p < count s → IsParent s.tables.bills p i → is_planned (outcome_of s p) ≡ true
parent-planned s i p all within parent = each-passes (λ p. is_planned (outcome_of s p)) (λ p. is_parent s.tables.bills p i) 0 (count s) p (omega arith) (omega arith) parent all

pub is_ready : (s : Inputs) (code : ℕ → ℕ) → IsRanked s code → (i : ℕ) → ready s i ≡ true → outcome_of s i ≡ judged s i (own_plan s i)
is_ready s code ranked i e = outcome_of-unfolds s code ranked i ∙ rw e refl

OverAbove : Inputs → ℕ → Type 0
OverAbove s i = (a : ℕ) × IsAbove s.tables.bills a i × (outcome_of s a ≡ Over)

-- above a blocked item there is one that is over
blocked-above : (s : Inputs) (code : ℕ → ℕ) → IsRanked s code → (n i : ℕ) → code i < n → outcome_of s i ≡ Blocked → OverAbove s i
unfolding OverAbove
blocked-above s code ranked zero i within e = absurd (omega arith)
blocked-above s code ranked (suc n) i within e =
    by (ready s i) refl (λ p rise h. blocked-above s code ranked n p (omega arith) h)
  where
    through : (p : ℕ) → IsParent s.tables.bills p i → OverAbove s p → OverAbove s i
    through p parent (a, (m, chain), over) = (a, (suc m, (p, chain, parent)), over)

    of_parent : (p : ℕ) → IsParent s.tables.bills p i → (code p < code i → outcome_of s p ≡ Blocked → OverAbove s p) → (outcome_of s p ≡ Over) ⊎ (outcome_of s p ≡ Blocked) → OverAbove s i
    of_parent p parent up (inl h) = (p, (0, (p, refl, parent)), h)
    of_parent p parent up (inr h) = through p parent (up (ranked.rises p i parent) h)

    by : (b : Bool) → ready s i ≡ b → ((p : ℕ) → code p < code i → outcome_of s p ≡ Blocked → OverAbove s p) → OverAbove s i
    by true k up = absurd (judged-not_blocked s i (own_plan s i) (sym (is_ready s code ranked i k) ∙ e))
    by false k up =
        let (p, parent, h) = some-fails (λ p. is_planned (outcome_of s p)) (λ p. is_parent s.tables.bills p i) (range_with_len 0 (count s)) k in
        of_parent p parent (up p) (is_planned-false (outcome_of s p) h)

-- a parent that is not planned blocks
parent-blocks : (s : Inputs) (code : ℕ → ℕ) → IsRanked s code → HasParents s → (p i : ℕ) → IsParent s.tables.bills p i → is_planned (outcome_of s p) ≡ false → outcome_of s i ≡ Blocked
parent-blocks s code ranked has p i parent h = by (ready s i) refl
  where
    by : (b : Bool) → ready s i ≡ b → outcome_of s i ≡ Blocked
    by true k =
        let within : p < count s = has p i parent in
        let planned : is_planned (outcome_of s p) ≡ true = each-passes (λ p. is_planned (outcome_of s p)) (λ p. is_parent s.tables.bills p i) 0 (count s) p (omega arith) (omega arith) parent k in
        absurd (cc)
    by false k = not_ready s code ranked i k

-- and so does one above that is over
above-blocks : (s : Inputs) (code : ℕ → ℕ) → IsRanked s code → HasParents s → (n a i : ℕ) → Chain s.tables.bills (suc n) a i → outcome_of s a ≡ Over → outcome_of s i ≡ Blocked
above-blocks s code ranked has zero a i (p, same, parent) e =
    parent-blocks s code ranked has p i parent (ap (λ x. is_planned (outcome_of s x)) (sym same) ∙ ap is_planned e)
above-blocks s code ranked has (suc n) a i (p, chain, parent) e =
    parent-blocks s code ranked has p i parent (ap is_planned (above-blocks s code ranked has n a p chain e))

pub blocked : (s : Inputs) (code : ℕ → ℕ) → IsRanked s code → HasParents s → (i : ℕ) → (outcome_of s i ≡ Blocked) ↔ ((a : ℕ) × IsAbove s.tables.bills a i × (outcome_of s a ≡ Over))
unfolding OverAbove
blocked s code ranked has i =
    ((λ e. blocked-above s code ranked (suc (code i)) i (omega arith) e), (λ h. back h))
  where
    back : OverAbove s i → outcome_of s i ≡ Blocked
    back (a, (n, chain), e) = above-blocks s code ranked has n a i chain e

pub over : (s : Inputs) (code : ℕ → ℕ) → IsRanked s code → HasParents s → (i : ℕ)
    → (outcome_of s i ≡ Over) ↔ (((a : ℕ) → IsAbove s.tables.bills a i → outcome_of s a ≢ Over) × IsTrue (is_too_large s i (own_plan s i)))
over s code ranked has i = ((λ e. (none e, large (ready s i) refl e)), (λ h. back (ready s i) refl h.0 h.1))
  where
    none : outcome_of s i ≡ Over → (a : ℕ) → IsAbove s.tables.bills a i → outcome_of s a ≢ Over
    none e a above f =
        let b : outcome_of s i ≡ Blocked = (blocked s code ranked has i).1 (a, above, f) in
        absurd (cc)

    large : (b : Bool) → ready s i ≡ b → outcome_of s i ≡ Over → IsTrue (is_too_large s i (own_plan s i))
    large true k e = judged-over s i (own_plan s i) (sym (is_ready s code ranked i k) ∙ e)
    large false k e = absurd (let b : outcome_of s i ≡ Blocked = not_ready s code ranked i k in cc)

    back : (b : Bool) → ready s i ≡ b → ((a : ℕ) → IsAbove s.tables.bills a i → outcome_of s a ≢ Over) → IsTrue (is_too_large s i (own_plan s i)) → outcome_of s i ≡ Over
    back true k free too = is_ready s code ranked i k ∙ rw too refl
    back false k free too =
        let (a, above, e) = (blocked s code ranked has i).0 (not_ready s code ranked i k) in
        absurd (free a above e)

is_over-true : (o : Outcome) → is_over o ≡ true → o ≡ Over
is_over-true (Planned p) h = absurd (cc)
is_over-true Over h = refl
is_over-true Blocked h = absurd (cc)

-- the first number of a range that passes
find-first : (q : ℕ → Bool) (a n i : ℕ) → find q (range_with_len a n) ≡ Some i → (q i ≡ true) × ((j : ℕ) → a ≤ j → j < i → q j ≡ false)
find-first q a zero i h = absurd (cc)
find-first q a (suc n) i h = by (q a) refl (find-first q (a + 1) n i) h
  where
    by : (b : Bool) → q a ≡ b → (find q (range_with_len (a + 1) n) ≡ Some i → (q i ≡ true) × ((j : ℕ) → a + 1 ≤ j → j < i → q j ≡ false))
        → cond b (Some a) (find q (range_with_len (a + 1) n)) ≡ Some i → (q i ≡ true) × ((j : ℕ) → a ≤ j → j < i → q j ≡ false)
    by true e more k =
        let same : a ≡ i = cc in
        (ap q (sym same) ∙ e, λ j low high. absurd (omega arith))
    by false e more k = ((more k).0, λ j low high. at j low high (eqb a j) refl)
      where
        at : (j : ℕ) → a ≤ j → j < i → (b : Bool) → eqb a j ≡ b → q j ≡ false
        at j low high true f = ap q (sym (eqb-true a j f)) ∙ e
        at j low high false f =
            let other : a ≢ j = eqb-false a j f in
            (more k).1 j (omega arith) high

pub first : (s : Inputs) (i : ℕ) → plan_of s ≡ Err i → (outcome_of s i ≡ Over) × ((j : ℕ) → j < i → outcome_of s j ≢ Over)
first s i h = by (first_over s) refl h
  where
    by : (o : Option ℕ) → first_over s ≡ o → plan_unless o (map (λ i. plan_in (outcome_of s i)) (places s)) ≡ Err i → (outcome_of s i ≡ Over) × ((j : ℕ) → j < i → outcome_of s j ≢ Over)
    by None e k = absurd (cc)
    by (Some a) e k =
        let same : a ≡ i = cc in
        let found = find-first (λ i. is_over (outcome_of s i)) 0 (count s) i (e ∙ ap Some same) in
        (is_over-true (outcome_of s i) found.0, λ j low over. absurd (let no = found.1 j (omega arith) low in let yes : is_over (outcome_of s j) ≡ true = ap is_over over in cc))

-- if nothing is found, nothing passes
pub find-none : (q : ℕ → Bool) (a n : ℕ) → find q (range_with_len a n) ≡ None → (j : ℕ) → a ≤ j → j < a + n → q j ≡ false
find-none q a zero h j low high = absurd (omega arith)
find-none q a (suc n) h j low high = by (q a) refl (eqb a j) refl h (λ k above. find-none q (a + 1) n k j above (omega arith))
  where
    by : (b : Bool) → q a ≡ b → (same : Bool) → eqb a j ≡ same → cond b (Some a) (find q (range_with_len (a + 1) n)) ≡ None
        → (find q (range_with_len (a + 1) n) ≡ None → a + 1 ≤ j → q j ≡ false) → q j ≡ false
    by true e same f k more = absurd (cc)
    by false e true f k more = ap q (sym (eqb-true a j f)) ∙ e
    by false e false f k more =
        let other : a ≢ j = eqb-false a j f in
        more k (omega arith)

above-is-item : (s : Inputs) → HasParents s → (n a i : ℕ) → Chain s.tables.bills (suc n) a i → a < count s
above-is-item s has zero a i (p, same, parent) = rw same (has p i parent)
above-is-item s has (suc n) a i (p, chain, parent) = above-is-item s has n a p chain

-- if no item is over, every item is planned
pub all-planned : (s : Inputs) (code : ℕ → ℕ) → IsRanked s code → HasParents s → first_over s ≡ None → (i : ℕ) → i < count s
    → outcome_of s i ≡ Planned (plan_in (outcome_of s i))
all-planned s code ranked has none i within = by (outcome_of s i) refl
  where
    free : (j : ℕ) → j < count s → outcome_of s j ≡ Over → ⊥
    free j inside over =
        let no = find-none (λ j. is_over (outcome_of s j)) 0 (count s) none j (omega arith) (omega arith) in
        let yes : is_over (outcome_of s j) ≡ true = ap is_over over in
        absurd (cc)

    by : (o : Outcome) → outcome_of s i ≡ o → o ≡ Planned (plan_in o)
    by (Planned p) e = refl
    by Over e = absurd (free i within e)
    by Blocked e =
        let (a, (n, chain), over) = (blocked s code ranked has i).0 e in
        absurd (free a (above-is-item s has n a i chain) over)
