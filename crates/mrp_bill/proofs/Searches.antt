-- The steps of a search up through parents, and what it finds.
use Rattle.std.proofs.Common.{◌≡◌, ◌≢◌, ◌⊎◌, inl, inr, ℕ, zero, suc, ◌+◌, ◌<◌, ◌≤◌, Bool, true, false, eqb, List, [], ◌∷◌, ◌++◌, length, map, get_or, refl, sym, ap, subst, ◌∙◌, arith}
use Rattle.std.specs.List.{Contains}
use Rattle.std.proofs.Math.ListN.{set, get_or-eq_default}
use Rattle.std.proofs.lemmas.Bool.{cases_eq, cases_lt, eq-eqb}
use Rattle.std.proofs.lemmas.List.{get_or-set_same, get_or-set_other, length-set, length-append, get_or_push, get_or_append_left, get_or_default, map_push}
use Rattle.std.proofs.lemmas.List.Sums.{sum_by-set}
use Rattle.mrp_bill.specs.declared.search.Met.{Met}
use Rattle.mrp_bill.specs.declared.search.Search.{Search}
use Rattle.mrp_bill.specs.Links.{Links, Leads, IsTrail, IsRound}
use Rattle.mrp_bill.specs.Grouped.{IsListed}
use Rattle.mrp_bill.specs.Ranking.{one_if_unseen}
use Rattle.mrp_bill.specs.Search.{met_at, item_at, IsBelow, IsSeen, Meets, IsSearch, Extends}
use Rattle.mrp_bill.proofs.Linked.{links-first}

pub seen-inside : (seen : List Bool) (i : ℕ) → IsSeen seen i → i < length seen
seen-inside seen i e = by (cases_lt i (length seen))
  where
    by : (i < length seen) ⊎ (length seen ≤ i) → i < length seen
    by (inl lt) = lt
    by (inr ge) = let none : get_or seen i false ≡ false = get_or-eq_default seen false {n = i} ge in absurd (cc)

-- what was read of those seen
pub seen-is : (seen : List Bool) (i : ℕ) (b : Bool) → i < length seen → b ≡ get_or seen i b → get_or seen i false ≡ b
seen-is seen i b h is = get_or_default seen i false b h ∙ sym is

seen-stays : (seen : List Bool) (item i : ℕ) → IsSeen seen i → IsSeen (set seen item true) i
seen-stays seen item i e = by (cases_eq i item)
  where
    by : (i ≡ item) ⊎ (i ≡ item → ⊥) → IsSeen (set seen item true) i
    by (inl same) = let h : item < length seen = omega (arith, seen-inside seen i e) in rw same (get_or-set_same seen item true false h)
    by (inr ne) = get_or-set_other seen item i true false ne ∙ e

met-push : (met : List Met) (m : Met) (k : ℕ) → k < length met → met_at (met ++ m ∷ []) k ≡ met_at met k
met-push met m k h = get_or_append_left met (m ∷ []) (record { item = 0; below = 0 }) k h

met-last : (met : List Met) (m : Met) (k : ℕ) → length met ≡ k → met_at (met ++ m ∷ []) k ≡ m
met-last met m k h = get_or_push met m (record { item = 0; below = 0 }) k h

item-push : (met : List Met) (m : Met) (k : ℕ) → k < length met → item_at (met ++ m ∷ []) k ≡ item_at met k
item-push met m k h = ap (λ (x : Met). x.item) (met-push met m k h)

-- a new parent of one that was found is found
pub search-meets : (parents : List (List ℕ)) (s t : Search) (item below : ℕ) → IsSearch parents s → Meets s t item below → item < length parents → get_or s.seen.items item false ≡ false
    → below < length s.met.items → IsListed parents item (item_at s.met.items below) → IsSearch parents t
search-meets parents s t item below k m inside new low link = record {
  size = rw m.seen (length-set s.seen.items item true ∙ k.size);
  some = rw m.met (omega (arith, length-append s.met.items (record { item = item; below = below } ∷ [])));
  met = λ n h. rw (m.met, m.seen) (met n (cases_lt n (length s.met.items)) (rw m.met at h));
  seen = λ i e. rw m.met (seen i (cases_eq i item) (rw m.seen at e));
  below = λ n pos h. rw m.met (is_below n pos (cases_lt n (length s.met.items)) (rw m.met at h));
}
  where
    here : item < length s.seen.items
    here = omega (arith, k.size)

    met : (n : ℕ) → (n < length s.met.items) ⊎ (length s.met.items ≤ n) → n < length (s.met.items ++ record { item = item; below = below } ∷ [])
        → IsSeen (set s.seen.items item true) (item_at (s.met.items ++ record { item = item; below = below } ∷ []) n)
    met n (inl lt) h = rw (item-push s.met.items (record { item = item; below = below }) n lt) (seen-stays s.seen.items item (item_at s.met.items n) (k.met n lt))
    met n (inr ge) h =
        let last : length s.met.items ≡ n = omega (arith, length-append s.met.items (record { item = item; below = below } ∷ [])) in
        let e : item_at (s.met.items ++ record { item = item; below = below } ∷ []) n ≡ item = ap (λ (x : Met). x.item) (met-last s.met.items (record { item = item; below = below }) n last) in
        rw e (get_or-set_same s.seen.items item true false here)

    seen : (i : ℕ) → (i ≡ item) ⊎ (i ≡ item → ⊥) → IsSeen (set s.seen.items item true) i
        → (n : ℕ) × (n < length (s.met.items ++ record { item = item; below = below } ∷ [])) × (item_at (s.met.items ++ record { item = item; below = below } ∷ []) n ≡ i)
    seen i (inl same) e = (
      length s.met.items,
      omega (arith, length-append s.met.items (record { item = item; below = below } ∷ [])),
      ap (λ (x : Met). x.item) (met-last s.met.items (record { item = item; below = below }) (length s.met.items) refl) ∙ sym same,
    )
    seen i (inr ne) e =
        let (n, h, is) = k.seen i (sym (get_or-set_other s.seen.items item i true false ne) ∙ e) in
        (n, omega (arith, length-append s.met.items (record { item = item; below = below } ∷ [])), item-push s.met.items (record { item = item; below = below }) n h ∙ is)

    is_below : (n : ℕ) → 0 < n → (n < length s.met.items) ⊎ (length s.met.items ≤ n) → n < length (s.met.items ++ record { item = item; below = below } ∷ [])
        → ((met_at (s.met.items ++ record { item = item; below = below } ∷ []) n).below < n)
        × IsListed parents (item_at (s.met.items ++ record { item = item; below = below } ∷ []) n) (item_at (s.met.items ++ record { item = item; below = below } ∷ []) (met_at (s.met.items ++ record { item = item; below = below } ∷ []) n).below)
    is_below n pos (inl lt) h =
        let (less, up) = k.below n pos lt in
        let e = met-push s.met.items (record { item = item; below = below }) n lt in
        let f = item-push s.met.items (record { item = item; below = below }) (met_at s.met.items n).below (omega arith) in
        let g = item-push s.met.items (record { item = item; below = below }) n lt in
        rw e (less, rw (g, f) up)
    is_below n pos (inr ge) h =
        let last : length s.met.items ≡ n = omega (arith, length-append s.met.items (record { item = item; below = below } ∷ [])) in
        let e = met-last s.met.items (record { item = item; below = below }) n last in
        let f = item-push s.met.items (record { item = item; below = below }) below low in
        let g : item_at (s.met.items ++ record { item = item; below = below } ∷ []) n ≡ item = ap (λ (x : Met). x.item) e in
        rw e (omega arith, rw (g, f) link)

pub meets-extends : (s t : Search) (item below : ℕ) → Meets s t item below → item < length s.seen.items → get_or s.seen.items item false ≡ false → Extends s t
meets-extends s t item below m inside new = record {
  longer = rw m.met (omega (arith, length-append s.met.items (record { item = item; below = below } ∷ [])));
  kept = λ k h. rw m.met (met-push s.met.items (record { item = item; below = below }) k h);
  work = rw (m.met, m.seen) (omega (arith, length-append s.met.items (record { item = item; below = below } ∷ []), sum_by-set one_if_unseen s.seen.items item true false inside, ap one_if_unseen new));
}

pub extends-on : (a b c : Search) → Extends a b → Extends b c → Extends a c
extends-on a b c f g = record {
  longer = omega (arith, f.longer, g.longer);
  kept = λ k h. g.kept k (omega (arith, f.longer)) ∙ f.kept k h;
  work = g.work ∙ f.work;
}

-- the parents so far were seen, and one more
pub seen-more : (s t : Search) (row : List ℕ) (n item below : ℕ) → Meets s t item below → item < length s.seen.items → item ≡ get_or row n 0 → ((k : ℕ) → k < n → IsSeen s.seen.items (get_or row k 0))
    → (k : ℕ) → k < n + 1 → IsSeen t.seen.items (get_or row k 0)
seen-more s t row n item below m inside is before k h = rw m.seen (by (cases_lt k n))
  where
    by : (k < n) ⊎ (n ≤ k) → IsSeen (set s.seen.items item true) (get_or row k 0)
    by (inl lt) = seen-stays s.seen.items item (get_or row k 0) (before k lt)
    by (inr ge) =
        let same : get_or row k 0 ≡ item = ap (λ x. get_or row x 0) (omega arith) ∙ sym is in
        rw same (get_or-set_same s.seen.items item true false inside)

pub seen-here : (s : Search) (row : List ℕ) (n : ℕ) → IsSeen s.seen.items (get_or row n 0) → ((k : ℕ) → k < n → IsSeen s.seen.items (get_or row k 0)) → (k : ℕ) → k < n + 1 → IsSeen s.seen.items (get_or row k 0)
seen-here s row n is before k h = by (cases_lt k n)
  where
    by : (k < n) ⊎ (n ≤ k) → IsSeen s.seen.items (get_or row k 0)
    by (inl lt) = before k lt
    by (inr ge) = subst (λ (x : ℕ). IsSeen s.seen.items (get_or row x 0)) (omega arith) is

-- the way down along the places is a way down along the items
places-trail : (parents : List (List ℕ)) (s : Search) → IsSearch parents s → (from : ℕ) (places : List ℕ) → from < length s.met.items → IsTrail (IsBelow s.met.items) from places 0
    → IsTrail (IsListed parents) (item_at s.met.items from) (map (item_at s.met.items) places) (item_at s.met.items 0)
places-trail parents s k from [] h e = ap (item_at s.met.items) e
places-trail parents s k from (x ∷ more) h ((pos, is), rest) =
    let (less, up) = k.below from pos h in
    (subst (λ (y : ℕ). IsListed parents (item_at s.met.items from) (item_at s.met.items y)) (sym is) up, places-trail parents s k x more (omega arith) rest)

-- from an item that is a parent of one that was found, down to itself
pub search-round : (parents : List (List ℕ)) (s : Search) (item from : ℕ) (places path : List ℕ) → IsSearch parents s → item_at s.met.items 0 ≡ item → from < length s.met.items
    → IsListed parents item (item_at s.met.items from) → IsTrail (IsBelow s.met.items) from places 0
    → path ≡ item_at s.met.items 0 ∷ item_at s.met.items from ∷ map (item_at s.met.items) places → IsRound (IsListed parents) item path
search-round parents s item from places path k first h link trail is =
    rw is (
      first,
      subst (λ (x : ℕ). IsListed parents x (item_at s.met.items from)) (sym first) link,
      subst (λ (x : ℕ). IsTrail (IsListed parents) (item_at s.met.items from) (map (item_at s.met.items) places) x) first (places-trail parents s k from places h trail),
    )

-- a search that found all that is above its first item, and never that item again
above-seen : (parents : List (List ℕ)) (s : Search) → IsSearch parents s → ((k : ℕ) → k < length s.met.items → (p : ℕ) → IsListed parents p (item_at s.met.items k) → IsSeen s.seen.items p)
    → (n a i : ℕ) → Links (IsListed parents) n a i → IsSeen s.seen.items i → IsSeen s.seen.items a
above-seen parents s k closed zero a i e seen = subst (λ (x : ℕ). IsSeen s.seen.items x) (sym e) seen
above-seen parents s k closed (suc n) a i (p, chain, link) seen =
    let (m, h, is) = k.seen i seen in
    above-seen parents s k closed n a p chain (closed m h p (subst (λ (x : ℕ). IsListed parents p x) (sym is) link))

pub never-round : (parents : List (List ℕ)) (s : Search) (item : ℕ) → IsSearch parents s → item_at s.met.items 0 ≡ item
    → ((k : ℕ) → k < length s.met.items → (p : ℕ) → IsListed parents p (item_at s.met.items k) → IsSeen s.seen.items p × (p ≢ item)) → Leads (IsListed parents) item item → ⊥
never-round parents s item k first above (n, round) =
    let (b, link, chain) = links-first (IsListed parents) n item item round in
    let start : IsSeen s.seen.items item = subst (λ (x : ℕ). IsSeen s.seen.items x) first (k.met 0 k.some) in
    let seen = above-seen parents s k (λ m h p up. (above m h p up).0) n b item chain start in
    let (m, h, is) = k.seen b seen in
    (above m h item (subst (λ (x : ℕ). IsListed parents item x) (sym is) link)).1 refl

-- one more place on the way down
pub path-push : (met : List Met) (from at next : ℕ) (places path new : List ℕ) → IsTrail (IsBelow met) from places at → 0 < at → next ≡ (met_at met at).below
    → path ≡ item_at met 0 ∷ item_at met from ∷ map (item_at met) places → new ≡ path ++ item_at met next ∷ []
    → new ≡ item_at met 0 ∷ item_at met from ∷ map (item_at met) (places ++ next ∷ [])
path-push met from at next places path new trail pos is before pushed =
    pushed ∙ ap (λ xs. xs ++ item_at met next ∷ []) before
    ∙ ap (λ xs. item_at met 0 ∷ item_at met from ∷ xs) (sym (map_push (item_at met) places next))

-- what was read of those found
pub met-is : (met : List Met) (k : ℕ) (m : Met) → k < length met → m ≡ get_or met k m → met_at met k ≡ m
met-is met k m h is = get_or_default met k (record { item = 0; below = 0 }) m h ∙ sym is

-- the parents of one more of those found were found, and are not the first item
pub above-more : (parents : List (List ℕ)) (s t : Search) (item next : ℕ) → Extends s t → next < length s.met.items
    → ((k : ℕ) → k < next → (p : ℕ) → IsListed parents p (item_at s.met.items k) → IsSeen s.seen.items p × (p ≢ item))
    → ((i : ℕ) → IsSeen s.seen.items i → IsSeen t.seen.items i)
    → ((p : ℕ) → IsListed parents p (item_at s.met.items next) → IsSeen t.seen.items p × (p ≢ item))
    → (k : ℕ) → k < next + 1 → (p : ℕ) → IsListed parents p (item_at t.met.items k) → IsSeen t.seen.items p × (p ≢ item)
above-more parents s t item next e low before stays here k h p link = by (cases_lt k next)
  where
    same : item_at t.met.items k ≡ item_at s.met.items k
    same = ap (λ (x : Met). x.item) (e.kept k (omega arith))

    link' : IsListed parents p (item_at s.met.items k)
    link' = subst (λ (x : ℕ). IsListed parents p x) same link

    by : (k < next) ⊎ (next ≤ k) → IsSeen t.seen.items p × (p ≢ item)
    by (inl lt) = let (seen, ne) = before k lt p link' in (stays p seen, ne)
    by (inr ge) = here p (subst (λ (x : ℕ). IsListed parents p (item_at s.met.items x)) (omega arith) link')

-- what a search has seen after a step
pub extends-seen : (parents : List (List ℕ)) (s t : Search) → IsSearch parents s → IsSearch parents t → Extends s t → (i : ℕ) → IsSeen s.seen.items i → IsSeen t.seen.items i
extends-seen parents s t k l e i seen =
    let (n, h, is) = k.seen i seen in
    let same : item_at t.met.items n ≡ i = ap (λ (x : Met). x.item) (e.kept n h) ∙ is in
    subst (λ (x : ℕ). IsSeen t.seen.items x) same (l.met n (omega (arith, e.longer)))

-- a list in which a search does not find a number has only others
pub others-of : (i : ℕ) (xs : List ℕ) → ((k d : ℕ) → 0 ≤ k → k < length xs → eqb (get_or xs k d) i ≡ false) → (p : ℕ) → Contains xs p → p ≢ i
others-of i xs none p (k, low, is) same =
    let no = none k p (omega arith) low in
    let yes = eq-eqb (get_or xs k p) i (is ∙ same) in
    absurd (cc)
