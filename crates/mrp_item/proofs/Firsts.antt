-- The first item that is over, among all items' outcomes.
use Rattle.std.proofs.Common.{◌≡◌, ◌∙◌, ℕ, zero, suc, ◌<◌, Bool, true, false, cond, List, [], ◌∷◌, length, take, get_or, map, refl, sym, ap, arith}
use Rattle.std.specs.Prelude.{find, ◌||◌, Some, None, Ok, Err}
use Rattle.std.specs.List.{list_any}
use Rattle.std.proofs.lemmas.List.{get_or-map, length-map}
use Rattle.mrp_item.specs.Inputs.{Inputs, places}
use Rattle.mrp_item.specs.Places.{ItemOf}
use Rattle.mrp_item.specs.Plan.{first_over, is_over, outcome_of, plan_in, plan_of, plan_unless}
use Rattle.mrp_item.specs.Made.{all_from, item_from, items_from}

abbrev pub own_over : ItemOf → Bool
own_over o = is_over (outcome_of o.inputs o.item)

-- no item is over
none-found : (s : Inputs) (items : List ℕ) → list_any own_over (items_from s items) ≡ false → find (λ i. is_over (outcome_of s i)) items ≡ None
none-found s [] h = refl
none-found s (i ∷ items) h = by (is_over (outcome_of s i)) h (none-found s items)
  where
    by : (b : Bool) → (b || list_any own_over (items_from s items)) ≡ false → (list_any own_over (items_from s items) ≡ false → find (λ i. is_over (outcome_of s i)) items ≡ None)
        → cond b (Some i) (find (λ i. is_over (outcome_of s i)) items) ≡ None
    by true k more = absurd (cc)
    by false k more = more k

-- none of the first items is over, and the next is
next-found : (s : Inputs) (items : List ℕ) (k : ℕ) → list_any own_over (take k (items_from s items)) ≡ false → k < length items → is_over (outcome_of s (get_or items k 0)) ≡ true
    → find (λ i. is_over (outcome_of s i)) items ≡ Some (get_or items k 0)
next-found s [] k h within e = absurd (omega arith)
next-found s (i ∷ items) zero h within e = rw e refl
next-found s (i ∷ items) (suc k) h within e = by (is_over (outcome_of s i)) h (λ h. next-found s items k h (omega arith) e)
  where
    by : (b : Bool) → (b || list_any own_over (take k (items_from s items))) ≡ false
        → (list_any own_over (take k (items_from s items)) ≡ false → find (λ i. is_over (outcome_of s i)) items ≡ Some (get_or items k 0))
        → cond b (Some i) (find (λ i. is_over (outcome_of s i)) items) ≡ Some (get_or items k 0)
    by true j more = absurd (cc)
    by false j more = more j

pub none_over : (s : Inputs) (os : List ItemOf) → os ≡ all_from s → list_any own_over os ≡ false → first_over s ≡ None
none_over s os are none = none-found s (places s) (ap (list_any own_over) (sym are) ∙ none)

pub over_at : (s : Inputs) (os : List ItemOf) (k : ℕ) (o : ItemOf) → os ≡ all_from s → k < length os → o ≡ get_or os k o
    → list_any own_over (take k os) ≡ false → own_over o ≡ true → plan_of s ≡ Err o.item
over_at s os k o are within is none over =
    let there : k < length (places s) = omega (arith, within, ap length are ∙ length-map (places s) (item_from s)) in
    let item : o ≡ item_from s (get_or (places s) k 0) = is ∙ ap (λ (xs : List ItemOf). get_or xs k o) are ∙ get_or-map (item_from s) (places s) k 0 o there in
    let first : first_over s ≡ Some o.item =
    next-found s (places s) k (ap (λ (xs : List ItemOf). list_any own_over (take k xs)) (sym are) ∙ none) there (ap own_over (sym item) ∙ over)
    ∙ ap (λ (x : ItemOf). Some x.item) (sym item) in
    ap (λ f. plan_unless f (map (λ i. plan_in (outcome_of s i)) (places s))) first

pub planned_all : (s : Inputs) → first_over s ≡ None → plan_of s ≡ Ok (map (λ i. plan_in (outcome_of s i)) (places s))
planned_all s none = ap (λ f. plan_unless f (map (λ i. plan_in (outcome_of s i)) (places s))) none
