-- Net change, item by item: outcomes in their places, marks of those that keep their orders, and what is counted.
use Rattle.std.proofs.Common.{◌≡◌, ◌≢◌, ◌∙◌, ℕ, zero, suc, ◌+◌, ◌<◌, ◌≤◌, ◌⊎◌, inl, inr, Bool, true, false, List, [], ◌∷◌, ◌++◌, Option, Some, None, length, length-append, get_or, replicate, set, take, map, refl, sym, ap, subst, arith, get_or-set_same, get_or-set_other}
use Rattle.std.specs.Prelude.{All, IsSome, OnOk, Result, Ok, Err}
use Rattle.std.specs.List.{range_with_len}
use Rattle.std.proofs.lemmas.Bool.{cases_eq}
use Rattle.std.proofs.lemmas.List.{ext_get_or, length-map, map-append}
use Rattle.std.proofs.lemmas.List.Elements.{All-push, All-nil, All-weaker, filter_passes}
use Rattle.std.proofs.lemmas.List.FromFn.{get_or-map-range_with_len, length-map-range_with_len}
use Rattle.std.proofs.lemmas.List.Quantifiers.{all_pairs_push}
use Rattle.mrp_tables.specs.Facts.{AllDiffer, IsBillLine}
use Rattle.mrp_tables.specs.declared.rows.BillLine.{BillLine}
use Rattle.mrp_bill.specs.Bill.{IsOrder, is_parent, parents_of}
use Rattle.mrp_bill.proofs.Listed.{filter-range-below}
use Rattle.mrp_item.specs.Inputs.{Inputs, count}
use Rattle.mrp_item.specs.Made.{all_from, item_from, items_from}
use Rattle.mrp_item.specs.NetChange.{IsLeftAlone, IsTouched, KeepsOrders, RisesByTouched}
use Rattle.mrp_item.specs.Own.{IsReady}
use Rattle.mrp_item.specs.Plan.{HasParents}
use Rattle.mrp_item.specs.Places.{ItemOf}
use Rattle.mrp_item.proofs.OutcomeLists.{items-next}
use Rattle.mrp_item.proofs.Parents.{kept_there}
use Rattle.mrp_item.proofs.Untouched.{parent-of-part, part-alone}
use Rattle.mrp_engine.specs.day.NetChange.{AreOwn, IsMade, IsRemade, KeepMarked}

module _ {M : Type 0} (item_of : M → ItemOf) (s : Inputs) where
  -- one more outcome of a list of items
  pub copied-next : (old new : List M) (o : M) (items : List ℕ) (k : ℕ) → k < length items → map item_of old ≡ items_from s (take k items) → new ≡ old ++ o ∷ []
      → item_of o ≡ item_from s (get_or items k 0) → map item_of new ≡ items_from s (take (k + 1) items)
  copied-next old new o items k h same adds is =
      items-next s (map item_of old) (map item_of new) (item_of o) items k h same (ap (map item_of) adds ∙ map-append item_of old (o ∷ [])) is

  -- one more outcome in its place
  pub own-set : (made : List (Option M)) (i : ℕ) (m : M) → i < length made → item_of m ≡ item_from s i → AreOwn item_of s made → AreOwn item_of s (set made i (Some m))
  own-set made i m within is own j o e = elim (cases_eq j i) [
    | inl same ↦
        let here : Some m ≡ Some o = sym (get_or-set_same made i (Some m) None within) ∙ ap (λ k. get_or (set made i (Some m)) k None) (sym same) ∙ e in
        let one : m ≡ o = cc in
        ap item_of (sym one) ∙ is ∙ ap (item_from s) (sym same)
    | inr other ↦ own j o (sym (get_or-set_other made i j (Some m) None other) ∙ e)
  ]

  -- all outcomes, in table order
  pub all-own : (made : List (Option M)) (all : List M) → length made ≡ count s → AreOwn item_of s made → made ≡ map Some all → map item_of all ≡ all_from s
  all-own made all size own are =
      let long : length all ≡ count s = sym (length-map all Some) ∙ sym (ap length are) ∙ size in
      let d : ItemOf = item_from s 0 in
      ext_get_or d (map item_of all) (all_from s) (length-map all item_of ∙ long ∙ sym (length-map-range_with_len (item_from s) 0 (count s)))
      (λ i h. each i (omega (arith, h, length-map all item_of, long)) ∙ sym (get_or-map-range_with_len (item_from s) 0 (count s) i i d (omega (arith, h, length-map all item_of, long)) (omega arith)))
    where
      at : (xs : List M) (i : ℕ) → i < length xs → (m : M) × (get_or (map Some xs) i None ≡ Some m) × (get_or (map item_of xs) i (item_from s 0) ≡ item_of m)
      at [] i h = absurd (omega arith)
      at (x ∷ xs) zero h = (x, refl, refl)
      at (x ∷ xs) (suc i) h = at xs i (omega arith)

      each : (i : ℕ) → i < count s → get_or (map item_of all) i (item_from s 0) ≡ item_from s i
      each i h =
          let (m, there, is) = at all i (omega (arith, h, sym (length-map all Some) ∙ sym (ap length are) ∙ size)) in
          is ∙ own i m (ap (λ (xs : List (Option M)). get_or xs i None) are ∙ there)

pub made-set : {M : Type 0} (made : List (Option M)) (i j : ℕ) (m : M) → i < length made → IsMade made j → IsMade (set made i (Some m)) j
made-set {M} made i j m within there = elim (cases_eq j i) [
  | inl same ↦ subst (λ (x : Option M). IsSome x) (sym (ap (λ k. get_or (set made i (Some m)) k None) same ∙ get_or-set_same made i (Some m) None within)) refl
  | inr other ↦ subst (λ (x : Option M). IsSome x) (sym (get_or-set_other made i j (Some m) None other)) there
]

pub made-here : {M : Type 0} (made : List (Option M)) (i : ℕ) (m : M) → i < length made → IsMade (set made i (Some m)) i
made-here {M} made i m within = subst (λ (x : Option M). IsSome x) (sym (get_or-set_same made i (Some m) None within)) refl

-- one more mark
pub marked-set : (old new : Inputs) (kept : List Bool) (i : ℕ) (b : Bool) → i < length kept → (b ≡ true → KeepsOrders old new i) → KeepMarked old new kept → KeepMarked old new (set kept i b)
marked-set old new kept i b within keeps marked j e = elim (cases_eq j i) [
  | inl same ↦
      subst (KeepsOrders old new) (sym same) (keeps (sym (get_or-set_same kept i b false within) ∙ ap (λ k. get_or (set kept i b) k false) (sym same) ∙ e))
  | inr other ↦ marked j (sym (get_or-set_other kept i j b false other) ∙ e)
]

-- places without outcomes, and marks that are not set
none-at : {X : Type 0} (n i : ℕ) (x : X) → get_or (replicate n x) i x ≡ x
none-at zero zero x = refl
none-at zero (suc i) x = refl
none-at (suc n) zero x = refl
none-at (suc n) (suc i) x = none-at n i x

pub own-none : {M : Type 0} (item_of : M → ItemOf) (s : Inputs) (made : List (Option M)) (n : ℕ) → made ≡ replicate n None → AreOwn item_of s made
own-none {M} item_of s made n none i m e =
    absurd (let empty : get_or made i None ≡ None = ap (λ (xs : List (Option M)). get_or xs i None) none ∙ none-at n i None in cc)

pub marked-none : (old new : Inputs) (kept : List Bool) (n : ℕ) → kept ≡ replicate n false → KeepMarked old new kept
marked-none old new kept n none i e = absurd (let unset : get_or kept i false ≡ false = ap (λ (xs : List Bool). get_or xs i false) none ∙ none-at n i false in cc)

-- parents are items
pub marks-fit : (lines : List BillLine) (n i : ℕ) (parents : List ℕ) (kept : List Bool) → parents ≡ parents_of lines n i → length kept ≡ n → All (λ p. p < length kept) parents
marks-fit lines n i parents kept are size k d h =
    omega (arith, filter-range-below (λ q. is_parent lines q i) n k d (subst (λ (xs : List ℕ). k < length xs) are h), ap (λ (xs : List ℕ). get_or xs k d) are, size)

-- net change leaves an item alone that has parents, all of which are marked
pub marked-alone : (old new : Inputs) (i : ℕ) (parents : List ℕ) (kept : List Bool) → old.tables ≡ new.tables → HasParents new → All (IsBillLine new.tables.items) new.tables.bills
    → parents ≡ parents_of new.tables.bills (count new) i → 0 < length parents → KeepMarked old new kept → All (λ p. get_or kept p false ≡ true) parents → IsLeftAlone old new i
marked-alone old new i parents kept tables has lines are some marked all =
    let first : 0 < length (parents_of new.tables.bills (count new) i) = subst (λ (xs : List ℕ). 0 < length xs) are some in
    let parent = filter_passes (λ q. is_parent new.tables.bills q i) (range_with_len 0 (count new)) 0 0 first in
    part-alone old new i tables (parent-of-part new _ i lines parent)
    (λ p above.
    let within : p < count new = has p i above in
    let (k, low, is) = kept_there (λ q. is_parent new.tables.bills q i) 0 (count new) p (omega arith) (omega arith) above in
    let there : k < length parents = subst (λ (xs : List ℕ). k < length xs) (sym are) low in
    let here : get_or parents k 0 ≡ p = ap (λ (xs : List ℕ). get_or xs k 0) are ∙ is in
    marked p (subst (λ (q : ℕ). get_or kept q false ≡ true) here (all k 0 there)))

-- among the first items of an order, as many different touched ones as a count has risen by
pub record HasRisen (old s : Inputs) (order : List ℕ) (k before after : ℕ) : Type 0 where
  pub touched : List ℕ
  pub differ : AllDiffer touched
  pub among : All (λ i. (j : ℕ) × (j < k) × (get_or order j 0 ≡ i)) touched
  pub are : All (IsTouched old s) touched
  pub rises : after ≤ before + length touched

pub not-risen : (old s : Inputs) (order : List ℕ) (n : ℕ) → HasRisen old s order 0 n n
not-risen old s order n = record {
  touched = [];
  differ = λ i j d less h. absurd (omega arith);
  among = All-nil (λ i. (j : ℕ) × (j < 0) × (get_or order j 0 ≡ i));
  are = All-nil (IsTouched old s);
  rises = omega arith;
}

later : (order : List ℕ) (k : ℕ) (xs : List ℕ) → All (λ i. (j : ℕ) × (j < k) × (get_or order j 0 ≡ i)) xs → All (λ i. (j : ℕ) × (j < k + 1) × (get_or order j 0 ≡ i)) xs
later order k xs all =
    All-weaker (λ i. (j : ℕ) × (j < k) × (get_or order j 0 ≡ i)) (λ i. (j : ℕ) × (j < k + 1) × (get_or order j 0 ≡ i)) (λ i among. let (j, low, is) = among in (j, omega arith, is)) xs all

-- an item that is not counted
pub risen-same : (old s : Inputs) (order : List ℕ) (k before now after : ℕ) → after ≡ now → HasRisen old s order k before now → HasRisen old s order (k + 1) before after
risen-same old s order k before now after same r = record {
  touched = r.touched;
  differ = r.differ;
  among = later order k r.touched r.among;
  are = r.are;
  rises = omega (arith, same, r.rises);
}

-- a touched item that is counted
pub risen-more : (lines : List BillLine) (n : ℕ) (old s : Inputs) (order : List ℕ) (k before now after i : ℕ) → IsOrder lines n order → k < length order → i ≡ get_or order k 0 → IsTouched old s i → after ≤ now + 1
    → HasRisen old s order k before now → HasRisen old s order (k + 1) before after
risen-more lines n old s order k before now after i o within here touched one r = record {
  touched = r.touched ++ i ∷ [];
  differ = all_pairs_push (λ x y. x ≢ y) r.touched i r.differ (λ m d h same.
      let (j, low, is) = r.among m d h in
      let equal : j ≡ k = o.all.once j k (omega arith) within (is ∙ same ∙ here) in
      omega arith);
  among = All-push (λ x. (j : ℕ) × (j < k + 1) × (get_or order j 0 ≡ x)) r.touched i (later order k r.touched r.among) (k, omega arith, sym here);
  are = All-push (IsTouched old s) r.touched i r.are touched;
  rises = omega (arith, one, r.rises, length-append r.touched (i ∷ []));
}

-- in the end each of these is an item
pub risen-all : (lines : List BillLine) (old s : Inputs) (order : List ℕ) (k before after : ℕ) → IsOrder lines (count s) order → k ≤ length order → HasRisen old s order k before after → RisesByTouched old s before after
risen-all lines old s order k before after o most r =
    (r.touched, r.differ, (λ m d h. let (j, low, is) = r.among m d h in (subst (λ (i : ℕ). i < count s) is (o.all.items j 0 (omega arith)), r.are m d h)), r.rises)

-- the next item of an order
pub risen-next : (lines : List BillLine) (n : ℕ) (old s : Inputs) (order : List ℕ) (k before now after i : ℕ) (o : ItemOf) (kept : Bool) → IsOrder lines n order → k < length order → i ≡ get_or order k 0
    → IsReady s i → IsRemade old s i now after o kept → HasRisen old s order k before now → HasRisen old s order (k + 1) before after
risen-next lines n old s order k before now after i o kept is within here ready remade r = by kept refl
  where
    counted : kept ≡ false → IsTouched old s i ⊎ (IsReady s i → ⊥) → HasRisen old s order (k + 1) before after
    counted e (inl touched) = risen-more lines n old s order k before now after i is within here touched (remade.counted e) r
    counted e (inr unready) = absurd (unready ready)

    by : (b : Bool) → kept ≡ b → HasRisen old s order (k + 1) before after
    by true e = risen-same old s order k before now after (remade.uncounted e) r
    by false e = counted e (remade.touched e)

-- what holds holds of any result
pub on-ok : {T E : Type 0} (r : Result T E) (P : Type 0) → P → OnOk r P
on-ok (Ok t) P h = h
on-ok (Err e) P h = tt
