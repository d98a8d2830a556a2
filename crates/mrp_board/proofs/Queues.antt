-- What a queue keeps over its calls.
use Rattle.std.proofs.Common.{◌≡◌, ◌≢◌, ◌∙◌, ◌<◌, ◌≤◌, ◌+◌, ◌-◌, ℕ, zero, suc, Bool, true, false, inl, inr, List, [], ◌∷◌, ◌++◌, Option, Some, None, length, length-set, get_or, map, set, take, refl, sym, ap, subst, arith, get_or-set_same, get_or-set_other}
use Rattle.std.proofs.lemmas.Bool.{cases_eq, cases_lt}
use Rattle.std.proofs.lemmas.List.{get_or_append_left, get_or_past, length_push}
use Rattle.std.proofs.lemmas.List.Sorted.{sum_by_popped, sum_by_pushed}
use Rattle.std.proofs.lemmas.List.Sums.{sum_by-cons, sum_by-set, sum_by_more_le}
use Rattle.std.proofs.Math.Seq.{get_or-append_seam}
use Rattle.std.specs.Prelude.{find, is_some, sum_by}
use Rattle.std.specs.BinaryHeap.{IsHeap, IsUpperBound}
use Rattle.std.specs.declared.cmp.Reverse.{Reverse}
use Rattle.std.specs.List.{range_with_len}
use Rattle.std.specs.List.Sorted.{IsPermutation}
use Rattle.std.specs.Ordering.{nat_cmp}
use Rattle.mrp_board.specs.Queue.{KeepsQueue, in_heap, is_due, less, occurrences, one_at, one_if, queue_places, waits_for, waits_for_none}
use Rattle.mrp_board.proofs.Heaps.{none-below, one-here, one-there, room-left, top-in}
use Rattle.mrp_board.proofs.Tests.{find-first, find-none, no, other-number}

-- 1 for an item that was not handed out
abbrev pub is_left : Option ℕ → ℕ
is_left w = one_if (is_some w)

due-one : (b : Bool) → 1 ≤ one_if b → b ≡ true
due-one true h = refl
due-one false h = absurd (omega (arith, h))

due-none : (b : Bool) → one_if b ≡ 0 → b ≡ false
due-none true h = absurd (omega (arith, h))
due-none false h = refl

due-most : (b : Bool) → one_if b ≤ 1
due-most true = omega arith
due-most false = omega arith

module _ (waits : List (Option ℕ)) (due : List (Reverse ℕ)) (room left : ℕ) (k : KeepsQueue waits due room left) where
  not-past : (item : ℕ) → length waits ≤ item → is_due waits item ≡ false
  not-past item past = ap waits_for_none (get_or_past waits item None past)

  -- what is in the heap is due, and what is not in it is not
  in-due : (item : ℕ) → 1 ≤ in_heap item due → is_due waits item ≡ true
  in-due item h = due-one (is_due waits item) (subst (λ (n : ℕ). 1 ≤ n) (k.once item) h)

  none-in : (item : ℕ) → in_heap item due ≡ 0 → is_due waits item ≡ false
  none-in item h = due-none (is_due waits item) (sym (k.once item) ∙ h)

  within : (item : ℕ) → is_due waits item ≡ true → item < length waits
  within item is = elim (cases_lt item (length waits)) [
    | inl low ↦ low
    | inr past ↦ no (sym (not-past item past) ∙ is)
  ]

  pub top-within : (x : Reverse ℕ) → 1 ≤ in_heap x.0 due → x.0 < length waits
  top-within x some = within x.0 (in-due x.0 some)

  -- there may be more room
  pub kept-roomier : (more : ℕ) → room ≤ more → KeepsQueue waits due more left
  kept-roomier more h = record { ordered = k.ordered; once = k.once; roomy = omega (arith, k.roomy, h); counted = k.counted }

  -- what is on top is the first item that is due
  pub first-is : (x : Reverse ℕ) → 0 < length due → x ≡ get_or due 0 x → IsUpperBound (λ a b. nat_cmp b.0 a.0) x due → find (is_due waits) (queue_places waits) ≡ Some x.0
  first-is x some is least =
      let here : is_due waits x.0 ≡ true = in-due x.0 (top-in x due some is) in
      find-first (is_due waits) 0 (length waits) x.0 (omega arith) (omega (arith, within x.0 here)) here (λ j low. none-in j (none-below x j due least low))

  pub first-none : length due ≡ 0 → find (is_due waits) (queue_places waits) ≡ None
  first-none empty = find-none (is_due waits) 0 (length waits) (λ j. none-in j (none due j empty))
    where
      none : (xs : List (Reverse ℕ)) (j : ℕ) → length xs ≡ 0 → in_heap j xs ≡ 0
      none [] j e = refl
      none (x ∷ xs) j e = absurd (omega (arith, e))

  -- an item waits for another number of parents, or was handed out
  module _ (item : ℕ) (w : Option ℕ) (there : item < length waits) where
    abbrev now : List (Option ℕ)
    now = set waits item w

    due-here : is_due now item ≡ waits_for_none w
    due-here = ap waits_for_none (get_or-set_same waits item w None there)

    due-there : (i : ℕ) → i ≢ item → is_due now i ≡ is_due waits i
    due-there i other = ap waits_for_none (get_or-set_other waits item i w None other)

    pub kept-set : (new : List (Reverse ℕ)) (count : ℕ) → IsHeap (λ x y. nat_cmp y.0 x.0) new → in_heap item new ≡ one_if (waits_for_none w) → ((i : ℕ) → i ≢ item → in_heap i new ≡ in_heap i due)
        → count + is_left (waits_for waits item) ≡ left + is_left w → KeepsQueue now new room count
    kept-set new count heap here others counts = record {
      ordered = heap;
      once = λ i. elim (cases_eq i item) [
        | inl same ↦ subst (λ (j : ℕ). in_heap j new ≡ one_if (is_due now j)) (sym same) (here ∙ ap one_if (sym due-here))
        | inr other ↦ others i other ∙ k.once i ∙ ap one_if (sym (due-there i other))
      ];
      roomy = omega (arith, length-set waits item w, k.roomy);
      counted = omega (arith, counts, k.counted, sum_by-set is_left waits item w None there);
    }

  -- the first item is handed out
  pub kept-taken : (x : Reverse ℕ) (rest : List (Reverse ℕ)) → 1 ≤ in_heap x.0 due → IsPermutation due (x ∷ rest) → IsHeap (λ x y. nat_cmp y.0 x.0) rest → (1 ≤ left) × KeepsQueue (set waits x.0 None) rest room (left - 1)
  kept-taken x rest some moved heap =
      let here : is_due waits x.0 ≡ true = in-due x.0 some in
      let there : x.0 < length waits = within x.0 here in
      let one : is_left (waits_for waits x.0) ≡ 1 = waits-one (waits_for waits x.0) here in
      let gone : (i : ℕ) → in_heap i rest + one_at i x.0 ≡ in_heap i due = (λ i. sum_by_popped (λ (r : Reverse ℕ). one_at i r.0) x due rest moved) in
      let some-left : 1 ≤ left = omega (arith, k.counted, one, sum_by-set is_left waits x.0 None None there) in (
        some-left,
        kept-set x.0 None there rest (left - 1) heap
            (omega (arith, gone x.0, one-here x.0 x.0 refl, k.once x.0 ∙ ap one_if here))
            (λ i other. omega (arith, gone i, one-there i x.0 (λ (e : x.0 ≡ i). other (sym e))))
            (omega (arith, some-left, one)),
      )
    where
      waits-one : (w : Option ℕ) → waits_for_none w ≡ true → is_left w ≡ 1
      waits-one None is = no is
      waits-one (Some n) is = refl

  -- an item that waits for parents waits for one less
  module _ (item n : ℕ) (is : waits_for waits item ≡ Some (suc n)) where
    pub waits-within : item < length waits
    waits-within = elim (cases_lt item (length waits)) [
      | inl low ↦ low
      | inr past ↦ absurd (let x : None ≡ Some (suc n) = sym (get_or_past waits item None past) ∙ is in cc)
    ]

    not-due : in_heap item due ≡ 0
    not-due = k.once item ∙ ap (λ (w : Option ℕ). one_if (waits_for_none w)) is ∙ ap one_if (other-number (suc n) 0 (λ (e : suc n ≡ 0). absurd (omega (arith, e))))

    one-left : is_left (waits_for waits item) ≡ 1
    one-left = ap is_left is

    -- and may then be due
    pub kept-pushed : (x : Reverse ℕ) (new : List (Reverse ℕ)) → x.0 ≡ item → IsPermutation (x ∷ due) new → IsHeap (λ x y. nat_cmp y.0 x.0) new → KeepsQueue (set waits item (Some 0)) new room left
    kept-pushed x new same moved heap =
        let more : (i : ℕ) → in_heap i new ≡ one_at i x.0 + in_heap i due = (λ i. sum_by_pushed (λ (r : Reverse ℕ). one_at i r.0) x due new moved) in
        kept-set item (Some 0) waits-within new left heap
        (omega (arith, more item, one-here item x.0 same, not-due))
        (λ i other. omega (arith, more i, one-there i x.0 (λ (e : x.0 ≡ i). other (sym e ∙ same))))
        (omega (arith, one-left))

    -- for which there is room
    pub has-room : length due < room
    has-room =
        omega (
          arith,
          k.roomy,
          room-left (length waits) item due (λ i. subst (λ (m : ℕ). m ≤ 1) (sym (k.once i)) (due-most (is_due waits i)))
              (λ i past. k.once i ∙ ap one_if (not-past i past)) waits-within not-due,
        )

-- A queue that is filled item by item.

left-all : (f : ℕ → ℕ) (a n : ℕ) → sum_by is_left (map (λ i. Some (f i)) (range_with_len a n)) ≡ n
left-all f a zero = refl
left-all f a (suc n) = omega (arith, sum_by-cons is_left (Some (f a)) (map (λ i. Some (f i)) (range_with_len (a + 1) n)), left-all f (a + 1) n)

-- the heap has each item that is due once
abbrev pub HasDue : List (Option ℕ) → List (Reverse ℕ) → Type 0
HasDue waits due = (item : ℕ) → in_heap item due ≡ one_if (is_due waits item)

module _ (waits : List (Option ℕ)) (due : List (Reverse ℕ)) (has : HasDue waits due) (w : Option ℕ) where
  abbrev grown : List (Option ℕ)
  grown = waits ++ w ∷ []

  grown-last : is_due grown (length waits) ≡ waits_for_none w
  grown-last = ap waits_for_none (get_or-append_seam waits w [] None)

  grown-other : (item : ℕ) → item ≢ length waits → is_due grown item ≡ is_due waits item
  grown-other item other = elim (cases_lt item (length waits)) [
    | inl low ↦ ap waits_for_none (get_or_append_left waits (w ∷ []) None item low)
    | inr past ↦
        let beyond : length grown ≤ item = omega (arith, past, other, length_push waits w) in
        ap waits_for_none (get_or_past grown item None beyond) ∙ sym (ap waits_for_none (get_or_past waits item None past))
  ]

  grown-by : (new : List (Reverse ℕ)) → in_heap (length waits) new ≡ one_if (waits_for_none w) → ((item : ℕ) → item ≢ length waits → in_heap item new ≡ in_heap item due) → HasDue grown new
  grown-by new here others item = elim (cases_eq item (length waits)) [
    | inl same ↦ subst (λ (j : ℕ). in_heap j new ≡ one_if (is_due grown j)) (sym same) (here ∙ ap one_if (sym grown-last))
    | inr other ↦ others item other ∙ has item ∙ ap one_if (sym (grown-other item other))
  ]

  lacks : in_heap (length waits) due ≡ 0
  lacks = has (length waits) ∙ ap (λ (v : Option ℕ). one_if (waits_for_none v)) (get_or_past waits (length waits) None (omega arith))

  -- one more item, which waits for parents
  pub due-waiting : waits_for_none w ≡ false → HasDue grown due
  due-waiting is = grown-by due (lacks ∙ ap one_if (sym is)) (λ item other. refl)

  -- or for none
  pub due-pushed : (x : Reverse ℕ) (new : List (Reverse ℕ)) → waits_for_none w ≡ true → x.0 ≡ length waits → IsPermutation (x ∷ due) new → HasDue grown new
  due-pushed x new is same moved =
      let more : (i : ℕ) → in_heap i new ≡ one_at i x.0 + in_heap i due = (λ i. sum_by_pushed (λ (r : Reverse ℕ). one_at i r.0) x due new moved) in
      grown-by new
      (omega (arith, more (length waits), one-here (length waits) x.0 same, lacks) ∙ ap one_if (sym is))
      (λ item other. omega (arith, more item, one-there item x.0 (λ (e : x.0 ≡ item). other (sym e ∙ same))))

-- the queue with all its items
pub kept-filled : (f : ℕ → ℕ) (n room : ℕ) (waits : List (Option ℕ)) (due : List (Reverse ℕ)) → waits ≡ map (λ i. Some (f i)) (range_with_len 0 n) → length waits ≤ room → IsHeap (λ x y. nat_cmp y.0 x.0) due → HasDue waits due
    → KeepsQueue waits due room n
kept-filled f n room waits due is enough heap has = record {
  ordered = heap;
  once = has;
  roomy = enough;
  counted = sym (ap (sum_by is_left) is ∙ left-all f 0 n);
}

-- each of these items waits for as many parents as it is listed
abbrev pub CanSettle : List ℕ → List (Option ℕ) → Type 0
CanSettle items waits = (i : ℕ) → 1 ≤ occurrences i items → (n : ℕ) × (waits_for waits i ≡ Some n) × (occurrences i items ≤ n)

-- the first of these items are settled
pub record IsSettled (items : List ℕ) (k : ℕ) (old now : List (Option ℕ)) : Type 0 where
  pub size : length now ≡ length old
  pub settled : (i : ℕ) → waits_for now i ≡ less (occurrences i (take k items)) (waits_for old i)

module _ (items : List ℕ) (k : ℕ) (old now : List (Option ℕ)) (h : IsSettled items k old now) (low : k < length items) where
  abbrev item : ℕ
  item = get_or items k 0

  pub can-settle : CanSettle items old → (n : ℕ) × (waits_for now item ≡ Some (suc n))
  can-settle can =
      let here : occurrences item (take k items) + one_at item item ≤ occurrences item items = sum_by_more_le (one_at item) items k 0 low in
      let some : 1 ≤ occurrences item items = omega (arith, here, one-here item item refl) in
      let waits = can item some in
      let done : ℕ = occurrences item (take k items) in
      let enough : done + 1 ≤ waits.0 = omega (arith, here, one-here item item refl, waits.2) in (
        waits.0 - done - 1,
        h.settled item ∙ ap (less done) waits.1 ∙ ap (λ (n : ℕ). Some n) (omega (arith, enough)),
      )
