-- What the state of a board keeps over its calls.
use Rattle.std.proofs.Common.{◌≡◌, ◌≢◌, ◌∙◌, ◌<◌, ◌≤◌, ◌+◌, ◌==◌, ◌&&◌, ℕ, zero, suc, Bool, true, false, cond, not, inl, inr, List, [], ◌∷◌, Option, Some, None, length, length-set, get_or, map, set, replicate, refl, sym, ap, subst, arith, get_or-set_same, get_or-set_other}
use Rattle.std.proofs.lemmas.Bool.{cases_eq, cases_lt}
use Rattle.std.proofs.lemmas.List.{get_or_past, length-replicate}
use Rattle.std.proofs.lemmas.List.Folds.{sum_by-zero}
use Rattle.std.proofs.lemmas.List.FromFn.{get_or-map-range_with_len, length-map-range_with_len}
use Rattle.std.proofs.lemmas.List.Sums.{sum_by-cons}
use Rattle.std.specs.Prelude.{filter, find, is_some, sum_by}
use Rattle.std.specs.List.{list_all, range_with_len}
use Rattle.mrp_tables.specs.declared.rows.BillLine.{BillLine}
use Rattle.mrp_bill.specs.Bill.{children_of, is_parent, parents_of}
use Rattle.mrp_item.specs.Inputs.{Inputs, count, places}
use Rattle.mrp_item.specs.Made.{item_from}
use Rattle.mrp_item.specs.Places.{ItemOf}
use Rattle.mrp_board.specs.BoardState.{BoardState, can_go_out, has_stored, new_board, outcome_at, parents_at, worker_of}
use Rattle.mrp_board.specs.Kept.{KeepsBoard, unfinished}
use Rattle.mrp_board.specs.Queue.{is_due, less, occurrences, one_at, one_if, queue_places, waits_for, waits_for_none}
use Rattle.mrp_board.proofs.Heaps.{one-here, one-there}
use Rattle.mrp_board.proofs.Queues.{CanSettle}
use Rattle.mrp_board.proofs.Tests.{all-by_place, all-same, each-place, equal, find-agree, no}

-- Lists of items that pass a test.

occurs-cons : (item i : ℕ) (items : List ℕ) → occurrences item (i ∷ items) ≡ one_at item i + occurrences item items
occurs-cons item i items = sum_by-cons (one_at item) i items

occurs-if : (item i : ℕ) (items : List ℕ) (b : Bool) → occurrences item (cond b (i ∷ items) items) ≡ cond b (one_at item i) 0 + occurrences item items
occurs-if item i items true = occurs-cons item i items
occurs-if item i items false = omega arith

passed-before : (p : ℕ → Bool) (item a n : ℕ) → item < a → occurrences item (filter p (range_with_len a n)) ≡ 0
passed-before p item a zero low = refl
passed-before p item a (suc n) low =
    omega (arith, occurs-if item a (filter p (range_with_len (a + 1) n)) (p a), none (p a), passed-before p item (a + 1) n (omega (arith, low)))
  where
    none : (b : Bool) → cond b (one_at item a) 0 ≡ 0
    none true = one-there item a (λ (e : a ≡ item). absurd (omega (arith, e, low)))
    none false = refl

-- an item is in such a list once if it passes
passed-once : (p : ℕ → Bool) (item a n : ℕ) → a ≤ item → item < a + n → occurrences item (filter p (range_with_len a n)) ≡ one_if (p item)
passed-once p item a zero low high = absurd (omega (arith, low, high))
passed-once p item a (suc n) low high = elim (cases_eq item a) [
  | inl same ↦
      omega (
        arith,
        occurs-if item a (filter p (range_with_len (a + 1) n)) (p a),
        passed-before p item (a + 1) n (omega (arith, same)),
        ap (λ (m : ℕ). cond (p a) m 0) (one-here item a (sym same)) ∙ ap (λ (j : ℕ). one_if (p j)) (sym same),
      )
  | inr other ↦
      omega (
        arith,
        occurs-if item a (filter p (range_with_len (a + 1) n)) (p a),
        none-either (p a) (one_at item a) (one-there item a (λ (e : a ≡ item). other (sym e))),
        passed-once p item (a + 1) n (omega (arith, low, other)) (omega (arith, high)),
      )
]
  where
    none-either : (b : Bool) (n : ℕ) → n ≡ 0 → cond b n 0 ≡ 0
    none-either true n e = e
    none-either false n e = refl

-- a sum that falls by one at each place of an item
sum-less : (f g : ℕ → ℕ) (item : ℕ) (items : List ℕ) → ((i : ℕ) → f i ≡ g i + one_at item i) → sum_by f items ≡ sum_by g items + occurrences item items
sum-less f g item [] same = refl
sum-less f g item (i ∷ items) same = omega (arith, sum_by-cons f i items, sum_by-cons g i items, occurs-cons item i items, same i, sum-less f g item items same)

passed-past : (p : ℕ → Bool) (item a n : ℕ) → a + n ≤ item → occurrences item (filter p (range_with_len a n)) ≡ 0
passed-past p item a zero high = refl
passed-past p item a (suc n) high =
    omega (arith, occurs-if item a (filter p (range_with_len (a + 1) n)) (p a), none (p a), passed-past p item (a + 1) n (omega (arith, high)))
  where
    none : (b : Bool) → cond b (one_at item a) 0 ≡ 0
    none true = one-there item a (λ (e : a ≡ item). absurd (omega (arith, e, high)))
    none false = refl

sum-ones : (f : ℕ → ℕ) (items : List ℕ) → ((i : ℕ) → f i ≡ 1) → sum_by f items ≡ length items
sum-ones f [] one = refl
sum-ones f (i ∷ items) one = omega (arith, sum_by-cons f i items, one i, sum-ones f items one)

of-none : {X : Type 0} (n : ℕ) (x : X) (i : ℕ) → get_or (replicate n x) i x ≡ x
of-none zero x i = refl
of-none (suc n) x zero = refl
of-none (suc n) x (suc i) = of-none n x i

-- What is not stored.

unstored-none : (b : Bool) → (one_if (not b) == 0) ≡ b
unstored-none true = refl
unstored-none false = refl

stored-all : (b : BoardState) (i : ℕ) → (unfinished b i == 0) ≡ list_all (has_stored b) (parents_at b i)
stored-all b i =
    sum_by-zero (λ (p : ℕ). one_if (not (has_stored b p))) (parents_at b i)
    ∙ all-same (λ (p : ℕ). one_if (not (has_stored b p)) == 0) (has_stored b) (parents_at b i) (λ p. unstored-none (has_stored b p))

-- the waits of the items that no worker took
abbrev pub first-waits : Inputs → List (Option ℕ)
first-waits s = map (λ i. Some (length (parents_of s.tables.bills (count s) i))) (places s)

pub kept-new : (s : Inputs) → KeepsBoard (new_board s) (first-waits s)
kept-new s = record {
  out_size = length-replicate (count s) None;
  own = record {
    size = length-replicate (count s) None;
    own = λ i o is. absurd (let n : None ≡ Some o = sym (of-none (count s) None i) ∙ is in cc);
  };
  size = length-map-range_with_len (λ i. Some (length (parents_of s.tables.bills (count s) i))) 0 (count s);
  waiting = λ i h.
      get_or-map-range_with_len (λ j. Some (length (parents_of s.tables.bills (count s) j))) 0 (count s) i i None h (omega arith)
      ∙ ap (λ (n : ℕ). Some n) (sym (sum-ones (λ (p : ℕ). one_if (not (has_stored (new_board s) p))) (parents_of s.tables.bills (count s) i) none-stored))
      ∙ ap (λ (w : Option ℕ). cond (is_some w) None (Some (unfinished (new_board s) i))) (sym (of-none (count s) None i));
  fed = λ i is. no (ap (λ (w : Option ℕ). is_some w) (sym (of-none (count s) None i)) ∙ is);
}
  where
    none-stored : (p : ℕ) → one_if (not (has_stored (new_board s) p)) ≡ 1
    none-stored p = ap (λ (o : Option ItemOf). one_if (not (is_some o))) (of-none (count s) None p)

module _ (b : BoardState) (waits : List (Option ℕ)) (k : KeepsBoard b waits) where
  due-is : (i : ℕ) → i < count b.inputs → is_due waits i ≡ can_go_out b i
  due-is i h = ap waits_for_none (k.waiting i h) ∙ by (is_some (worker_of b i))
    where
      by : (out : Bool) → waits_for_none (cond out None (Some (unfinished b i))) ≡ (not out && list_all (has_stored b) (parents_at b i))
      by true = refl
      by false = stored-all b i

  -- the first item of the queue that is due is the first that can be handed out
  pub first-out : find (is_due waits) (queue_places waits) ≡ find (can_go_out b) (places b.inputs)
  first-out =
      ap (λ (n : ℕ). find (is_due waits) (range_with_len 0 n)) k.size
      ∙ find-agree (is_due waits) (can_go_out b) (places b.inputs) (each-place (count b.inputs) (λ i. is_due waits i ≡ can_go_out b i) due-is)

  -- the queue is empty where every item was handed out
  pub empty-out : list_all (λ w. not (is_some w)) waits ≡ list_all (λ i. is_some (worker_of b i)) (places b.inputs)
  empty-out =
      all-by_place (λ w. not (is_some w)) (λ i. is_some (worker_of b i)) None 0 waits
      (λ i h.
      ap (λ (w : Option ℕ). not (is_some w)) (k.waiting i (omega (arith, h, k.size)))
      ∙ by (is_some (worker_of b i)) (unfinished b i)
      ∙ ap (λ (j : ℕ). is_some (worker_of b j)) (omega arith))
      ∙ ap (λ (n : ℕ). list_all (λ i. is_some (worker_of b i)) (range_with_len 0 n)) k.size
    where
      by : (out : Bool) (n : ℕ) → not (is_some (cond out None (Some n))) ≡ out
      by true n = refl
      by false n = refl

  out-within : (i : ℕ) → is_some (worker_of b i) ≡ true → i < count b.inputs
  out-within i is = elim (cases_lt i (count b.inputs)) [
    | inl low ↦ low
    | inr past ↦ no (ap (λ (w : Option ℕ). is_some w) (sym (get_or_past b.out i None (omega (arith, past, k.out_size)))) ∙ is)
  ]

  -- an item that can be handed out is a worker's
  module _ (who item : ℕ) (within : item < count b.inputs) (due : is_due waits item ≡ true) where
    abbrev taken : BoardState
    taken = record b { out = set b.out item (Some who) }

    pub out-there : item < length b.out
    out-there = omega (arith, within, k.out_size)

    is-fed : unfinished b item ≡ 0
    is-fed = by (is_some (worker_of b item)) (ap waits_for_none (sym (k.waiting item within)) ∙ due)
      where
        by : (out : Bool) → waits_for_none (cond out None (Some (unfinished b item))) ≡ true → unfinished b item ≡ 0
        by true is = no is
        by false is = equal (unfinished b item) 0 is

    worker-here : worker_of taken item ≡ Some who
    worker-here = get_or-set_same b.out item (Some who) None out-there

    worker-other : (i : ℕ) → i ≢ item → worker_of taken i ≡ worker_of b i
    worker-other i other = get_or-set_other b.out item i (Some who) None other

    pub kept-out : KeepsBoard taken (set waits item None)
    kept-out = record {
      out_size = length-set b.out item (Some who) ∙ k.out_size;
      own = k.own;
      size = length-set waits item None ∙ k.size;
      waiting = λ i h. elim (cases_eq i item) [
        | inl same ↦
            subst (λ (j : ℕ). waits_for (set waits item None) j ≡ cond (is_some (worker_of taken j)) None (Some (unfinished b j))) (sym same)
            (get_or-set_same waits item None None (omega (arith, within, k.size)) ∙ ap (λ (w : Option ℕ). cond (is_some w) None (Some (unfinished b item))) (sym worker-here))
        | inr other ↦
            get_or-set_other waits item i None None other ∙ k.waiting i h
            ∙ ap (λ (w : Option ℕ). cond (is_some w) None (Some (unfinished b i))) (sym (worker-other i other))
      ];
      fed = λ i is. elim (cases_eq i item) [
        | inl same ↦ subst (λ (j : ℕ). unfinished b j ≡ 0) (sym same) is-fed
        | inr other ↦ k.fed i (ap (λ (w : Option ℕ). is_some w) (sym (worker-other i other)) ∙ is)
      ];
    }

  -- the outcome of an item that was handed out is stored
  module _ (item : ℕ) (o : ItemOf) (is : o ≡ item_from b.inputs item) (out : is_some (worker_of b item) ≡ true) (new : has_stored b item ≡ false) where
    abbrev stored : BoardState
    stored = record b { outcomes = set b.outcomes item (Some o) }

    abbrev bills : List BillLine
    bills = b.inputs.tables.bills

    abbrev children : List ℕ
    children = children_of bills (count b.inputs) item

    pub stored-within : item < count b.inputs
    stored-within = out-within item out

    pub outcome-there : item < length b.outcomes
    outcome-there = omega (arith, stored-within, k.own.size)

    stored-here : outcome_at stored item ≡ Some o
    stored-here = get_or-set_same b.outcomes item (Some o) None outcome-there

    stored-other : (i : ℕ) → i ≢ item → outcome_at stored i ≡ outcome_at b i
    stored-other i other = get_or-set_other b.outcomes item i (Some o) None other

    one-stored : (p : ℕ) → one_if (not (has_stored b p)) ≡ one_if (not (has_stored stored p)) + one_at item p
    one-stored p = elim (cases_eq p item) [
      | inl same ↦
          subst (λ (j : ℕ). one_if (not (has_stored b j)) ≡ one_if (not (has_stored stored j)) + one_at item j) (sym same)
          (omega (arith, ap (λ (v : Bool). one_if (not v)) new, ap (λ (x : Option ItemOf). one_if (not (is_some x))) stored-here, one-here item item refl))
      | inr other ↦ omega (arith, ap (λ (x : Option ItemOf). one_if (not (is_some x))) (stored-other p other), one-there item p other)
    ]

    fewer : (i : ℕ) → unfinished b i ≡ unfinished stored i + occurrences item (parents_at b i)
    fewer i = sum-less (λ (p : ℕ). one_if (not (has_stored b p))) (λ (p : ℕ). one_if (not (has_stored stored p))) item (parents_at b i) one-stored

    fewer-child : (i : ℕ) → i < count b.inputs → unfinished b i ≡ unfinished stored i + occurrences i children
    fewer-child i h =
        omega (
          arith,
          fewer i,
          passed-once (λ p. is_parent bills p i) item 0 (count b.inputs) (omega arith) (omega (arith, stored-within)),
          passed-once (λ c. is_parent bills item c) i 0 (count b.inputs) (omega arith) (omega (arith, h)),
        )

    child-within : (i : ℕ) → 1 ≤ occurrences i children → i < count b.inputs
    child-within i some = elim (cases_lt i (count b.inputs)) [
      | inl low ↦ low
      | inr past ↦ absurd (omega (arith, some, passed-past (λ c. is_parent bills item c) i 0 (count b.inputs) (omega (arith, past))))
    ]

    -- its components waited for it
    pub children-settle : CanSettle children waits
    children-settle i some =
        let h : i < count b.inputs = child-within i some in
        let parts : unfinished b i ≡ unfinished stored i + occurrences i children = fewer-child i h in (
          unfinished b i,
          k.waiting i h ∙ by i some parts (is_some (worker_of b i)) refl,
          omega (arith, parts),
        )
      where
        by : (i : ℕ) → 1 ≤ occurrences i children → unfinished b i ≡ unfinished stored i + occurrences i children → (v : Bool) → is_some (worker_of b i) ≡ v → cond v None (Some (unfinished b i)) ≡ Some (unfinished b i)
        by i some parts true taken = absurd (omega (arith, some, parts, k.fed i taken))
        by i some parts false taken = refl

    own-set : (i : ℕ) (p : ItemOf) → outcome_at stored i ≡ Some p → p ≡ item_from b.inputs i
    own-set i p there = elim (cases_eq i item) [
      | inl same ↦
          let here : outcome_at stored i ≡ Some o = ap (outcome_at stored) same ∙ stored-here in
          let outcome : o ≡ p = cc in
          sym outcome ∙ is ∙ ap (item_from b.inputs) (sym same)
      | inr other ↦ k.own.own i p (sym (stored-other i other) ∙ there)
    ]

    pub kept-stored : (now : List (Option ℕ)) → length now ≡ length waits → ((i : ℕ) → waits_for now i ≡ less (occurrences i children) (waits_for waits i)) → KeepsBoard stored now
    kept-stored now size settled = record {
      out_size = k.out_size;
      own = record { size = length-set b.outcomes item (Some o) ∙ k.own.size; own = own-set };
      size = size ∙ k.size;
      waiting = λ i h. settled i ∙ ap (less (occurrences i children)) (k.waiting i h) ∙ by (occurrences i children) (unfinished b i) (unfinished stored i) (fewer-child i h) (is_some (worker_of b i));
      fed = λ i is. omega (arith, fewer i, k.fed i is);
    }
      where
        by : (n u v : ℕ) → u ≡ v + n → (out : Bool) → less n (cond out None (Some u)) ≡ cond out None (Some v)
        by n u v parts true = refl
        by n u v parts false = ap (λ (m : ℕ). Some m) (omega (arith, parts))
