-- Codes from an order in which parents come before their components.
use Rattle.std.proofs.Common.{◌≡◌, ◌≢◌, ◌⊎◌, inl, inr, ℕ, zero, suc, ◌+◌, ◌<◌, ◌≤◌, List, [], length, get_or, refl, sym, ap, subst, ◌∙◌, arith}
use Rattle.std.specs.Prelude.{All}
use Rattle.std.proofs.Math.ListN.{set, get_or-eq_default}
use Rattle.std.proofs.lemmas.Bool.{cases_lt}
use Rattle.std.proofs.lemmas.List.{get_or-set_same, get_or-set_other, get_or_default}
use Rattle.mrp_bill.specs.Bill.{HoldsEachOnce}
use Rattle.mrp_bill.specs.Climb.{IsSettled}
use Rattle.mrp_bill.specs.Links.{IsCoded, AreRising}
use Rattle.mrp_bill.specs.Grouped.{listed, IsListed}

-- an item with a non-empty list is one of the items
pub listed-inside : (lists : List (List ℕ)) (p i : ℕ) → IsListed lists p i → i < length lists
listed-inside lists p i (k, low, is) = by (cases_lt i (length lists))
  where
    by : (i < length lists) ⊎ (length lists ≤ i) → i < length lists
    by (inl lt) = lt
    by (inr ge) =
        let none : listed lists i ≡ [] = get_or-eq_default lists [] {n = i} ge in
        absurd (omega (arith, ap (length {A = ℕ}) none, low))

-- the codes of the parents of the item at k are those of earlier items, and small
pub parent-codes : (parents : List (List ℕ)) (order codes : List ℕ) (k p : ℕ) → IsSettled (IsListed parents) order → k < length order
    → ((j : ℕ) → j < k → get_or codes (get_or order j 0) 0 ≤ j) → IsListed parents p (get_or order k 0) → get_or codes p 0 < k
parent-codes parents order codes k p settled h low link =
    let (j, before, is) = settled k p h link in
    let e = ap (λ x. get_or codes x 0) is in
    omega (arith, low j before)

-- an item that was coded stays so when a later one gets its code
pub coded-stays : (parents : List (List ℕ)) (order codes : List ℕ) (n k v j : ℕ) → HoldsEachOnce n order → IsSettled (IsListed parents) order → k < length order → j < k
    → IsCoded (IsListed parents) (λ i. get_or codes i 0) (get_or order j 0)
    → IsCoded (IsListed parents) (λ i. get_or (set codes (get_or order k 0) v) i 0) (get_or order j 0)
coded-stays parents order codes n k v j all settled h before coded = record {
  above = λ p link. rw (same p (earlier p link), here) (coded.above p link);
  from_one = λ m e. let (p, link, is) = coded.from_one m (sym here ∙ e) in (p, link, same p (earlier p link) ∙ is);
}
  where
    same : (p : ℕ) → (p ≢ get_or order k 0) → get_or (set codes (get_or order k 0) v) p 0 ≡ get_or codes p 0
    same p ne = get_or-set_other codes (get_or order k 0) p v 0 ne

    earlier : (p : ℕ) → IsListed parents p (get_or order j 0) → p ≢ get_or order k 0
    earlier p link e =
        let (i, first, is) = settled j p (omega arith) link in
        let same_place : i ≡ k = all.once i k (omega arith) h (is ∙ e) in
        absurd (omega arith)

    here : get_or (set codes (get_or order k 0) v) (get_or order j 0) 0 ≡ get_or codes (get_or order j 0) 0
    here = same (get_or order j 0) (λ e. let same_place : j ≡ k = all.once j k (omega arith) h e in absurd (omega arith))

-- the item at k gets its code
pub coded-here : (parents : List (List ℕ)) (order codes : List ℕ) (n k v : ℕ) → HoldsEachOnce n order → IsSettled (IsListed parents) order → k < length order → get_or order k 0 < length codes
    → ((p : ℕ) → IsListed parents p (get_or order k 0) → get_or codes p 0 < v)
    → ((m : ℕ) → v ≡ suc m → (p : ℕ) × IsListed parents p (get_or order k 0) × (get_or codes p 0 ≡ m))
    → IsCoded (IsListed parents) (λ i. get_or (set codes (get_or order k 0) v) i 0) (get_or order k 0)
coded-here parents order codes n k v all settled h inside above from = record {
  above = λ p link. rw (same p (earlier p link), here) (above p link);
  from_one = λ m e. let (p, link, is) = from m (sym here ∙ e) in (p, link, same p (earlier p link) ∙ is);
}
  where
    same : (p : ℕ) → (p ≢ get_or order k 0) → get_or (set codes (get_or order k 0) v) p 0 ≡ get_or codes p 0
    same p ne = get_or-set_other codes (get_or order k 0) p v 0 ne

    earlier : (p : ℕ) → IsListed parents p (get_or order k 0) → p ≢ get_or order k 0
    earlier p link e =
        let (i, first, is) = settled k p h link in
        let same_place : i ≡ k = all.once i k (omega arith) h (is ∙ e) in
        absurd (omega arith)

    here : get_or (set codes (get_or order k 0) v) (get_or order k 0) 0 ≡ v
    here = get_or-set_same codes (get_or order k 0) v 0 inside

-- when every item of the order is coded, the codes are right everywhere
pub rising-all : (parents : List (List ℕ)) (order codes : List ℕ) → length codes ≡ length parents → HoldsEachOnce (length parents) order
    → ((j : ℕ) → j < length order → IsCoded (IsListed parents) (λ i. get_or codes i 0) (get_or order j 0)) → AreRising (IsListed parents) (λ i. get_or codes i 0)
rising-all parents order codes size all coded = record {
  rises = λ p i link. (coded_at i (listed-inside parents p i link)).above p link;
  from_parent = λ i n e. from i n e (cases_lt i (length parents));
}
  where
    coded_at : (i : ℕ) → i < length parents → IsCoded (IsListed parents) (λ x. get_or codes x 0) i
    coded_at i h =
        let (j, low, is) = all.each i h in
        subst (λ (x : ℕ). IsCoded (IsListed parents) (λ y. get_or codes y 0) x) is (coded j low)

    from : (i n : ℕ) → get_or codes i 0 ≡ suc n → (i < length parents) ⊎ (length parents ≤ i) → (p : ℕ) × IsListed parents p i × (get_or codes p 0 ≡ n)
    from i n e (inl h) = (coded_at i h).from_one n e
    from i n e (inr h) =
        let none : get_or codes i 0 ≡ 0 = get_or-eq_default codes 0 {n = i} (omega arith) in
        absurd (omega arith)

-- and each is below the count of items
pub low-all : (n : ℕ) (order codes : List ℕ) → length codes ≡ n → length order ≡ n → HoldsEachOnce n order
    → ((j : ℕ) → j < length order → get_or codes (get_or order j 0) 0 ≤ j) → All (λ code. code < n) codes
low-all n order codes size sizes all low i d h =
    let (j, before, is) = all.each i (omega arith) in
    let e = ap (λ x. get_or codes x 0) is in
    omega (arith, get_or_default codes i d 0 h, low j before)

-- one more item of the order is coded
pub coded-more : (parents : List (List ℕ)) (order codes : List ℕ) (n k v : ℕ) → HoldsEachOnce n order → IsSettled (IsListed parents) order → k < length order → get_or order k 0 < length codes
    → ((j : ℕ) → j < k → IsCoded (IsListed parents) (λ i. get_or codes i 0) (get_or order j 0))
    → ((p : ℕ) → IsListed parents p (get_or order k 0) → get_or codes p 0 < v)
    → ((m : ℕ) → v ≡ suc m → (p : ℕ) × IsListed parents p (get_or order k 0) × (get_or codes p 0 ≡ m))
    → (j : ℕ) → j < k + 1 → IsCoded (IsListed parents) (λ i. get_or (set codes (get_or order k 0) v) i 0) (get_or order j 0)
coded-more parents order codes n k v all settled h inside coded above from j low = by (cases_lt j k)
  where
    by : (j < k) ⊎ (k ≤ j) → IsCoded (IsListed parents) (λ i. get_or (set codes (get_or order k 0) v) i 0) (get_or order j 0)
    by (inl before) = coded-stays parents order codes n k v j all settled h before (coded j before)
    by (inr after) =
        let same : k ≡ j = omega arith in
        subst (λ (x : ℕ). IsCoded (IsListed parents) (λ i. get_or (set codes (get_or order k 0) v) i 0) (get_or order x 0)) same (coded-here parents order codes n k v all settled h inside above from)

pub low-more : (parents : List (List ℕ)) (order codes : List ℕ) (n k v : ℕ) → HoldsEachOnce n order → IsSettled (IsListed parents) order → k < length order → get_or order k 0 < length codes
    → ((j : ℕ) → j < k → get_or codes (get_or order j 0) 0 ≤ j)
    → ((m : ℕ) → v ≡ suc m → (p : ℕ) × IsListed parents p (get_or order k 0) × (get_or codes p 0 ≡ m))
    → (j : ℕ) → j < k + 1 → get_or (set codes (get_or order k 0) v) (get_or order j 0) 0 ≤ j
low-more parents order codes n k v all settled h inside low from j le = by (cases_lt j k)
  where
    small : (w : ℕ) → v ≡ w → w ≤ k
    small zero e = omega arith
    small (suc m) e =
        let (p, link, is) = from m e in
        omega (arith, parent-codes parents order codes k p settled h low link, is)

    by : (j < k) ⊎ (k ≤ j) → get_or (set codes (get_or order k 0) v) (get_or order j 0) 0 ≤ j
    by (inl before) =
        let ne : get_or order j 0 ≢ get_or order k 0 = λ e. let same : j ≡ k = all.once j k (omega arith) h e in absurd (omega arith) in
        rw (get_or-set_other codes (get_or order k 0) (get_or order j 0) v 0 ne) (low j before)
    by (inr after) =
        let same : j ≡ k = omega arith in
        rw same (omega (arith, get_or-set_same codes (get_or order k 0) v 0 inside, small v refl))
