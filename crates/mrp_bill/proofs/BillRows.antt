-- The rows of a bill's lists, numbered by items.
use Rattle.std.proofs.Common.{◌≡◌, ◌⊎◌, inl, inr, ◌∙◌, ℕ, zero, suc, ◌+◌, ◌<◌, ◌≤◌, Bool, true, false, cond, eqb, List, [], ◌∷◌, ◌++◌, length, take, map, filter, get_or, set, refl, sym, ap, subst, arith}
use Rattle.std.specs.Prelude.{◌||◌, ◌&&◌, ◌==◌, All, flat_map, nat_lt}
use Rattle.std.specs.List.{range_with_len, list_any}
use Rattle.std.proofs.lemmas.Bool.{cases_eq, eq-eqb, eqb-true, ne_eqb, lt-ltb, le-ltb}
use Rattle.std.proofs.lemmas.Grind.{flat_map-append}
use Rattle.std.proofs.lemmas.List.{append-nil, get_or-set_other, get_or-set_same, length-set, map-append, map-id}
use Rattle.std.proofs.lemmas.List.Elements.{All-append, All-map, All-push, All-set, filter-append}
use Rattle.std.proofs.lemmas.List.Folds.{list_any_more}
use Rattle.std.proofs.lemmas.List.FromFn.{get_or-range_with_len, length-range_with_len, map-range_with_len_more}
use Rattle.mrp_tables.specs.declared.rows.BillLine.{BillLine}
use Rattle.mrp_bill.specs.declared.groups.Numbered.{Numbered}
use Rattle.mrp_bill.specs.Bill.{AreWithin, is_parent, line_at, lines_of, children_of}
use Rattle.mrp_bill.specs.BillLists.{has_parent, of_parent, to_component}
use Rattle.mrp_bill.specs.Grouped.{values_of}
use Rattle.mrp_bill.proofs.Accepted.{lines-are}
use Rattle.mrp_bill.proofs.GroupParts.{values_of-all}
use Rattle.mrp_bill.proofs.Listed.{filter-range_more, filter-range-below}

-- The lines to each item.

-- the places of the lines, numbered by their components, are those to each item
pub lines-grouped : (lines : List BillLine) (i : ℕ) → values_of (map (to_component lines) (range_with_len 0 (length lines))) i ≡ lines_of lines i
lines-grouped lines i = values_of-all (to_component lines) (range_with_len 0 (length lines)) i ∙ map-id (lines_of lines i)

pub lines-below : (lines : List BillLine) (i : ℕ) → All (λ place. place < length lines) (lines_of lines i)
lines-below lines i = filter-range-below (λ place. (line_at lines place).component == i) (length lines)

pub lines-numbered : (lines : List BillLine) (count : ℕ) → AreWithin count lines → All (λ r. r.number < count) (map (to_component lines) (range_with_len 0 (length lines)))
lines-numbered lines count within =
    All-map (λ (r : Numbered ℕ). r.number < count) (to_component lines) (range_with_len 0 (length lines))
    (λ k d h.
    let at = get_or-range_with_len 0 (length lines) k d (omega (arith, h, length-range_with_len 0 (length lines))) in
    let inside : get_or (range_with_len 0 (length lines)) k d < length lines = omega (arith, at, h, length-range_with_len 0 (length lines)) in
    (within (get_or (range_with_len 0 (length lines)) k d) (record { parent = 0; component = 0; per = 0 }) inside).1)

-- The items, numbered by their parents.

-- the parents in the lines to an item are its parents
parents-in_lines : (lines : List BillLine) (p i : ℕ) → list_any (λ line. line.parent == p) (filter (λ line. line.component == i) lines) ≡ is_parent lines p i
parents-in_lines [] p i = refl
parents-in_lines (line ∷ lines) p i = by (eqb line.component i) (eqb line.parent p) refl (parents-in_lines lines p i)
  where
    by : (c e : Bool) → eqb line.parent p ≡ e
        → list_any (λ line. line.parent == p) (filter (λ line. line.component == i) lines) ≡ is_parent lines p i
        → list_any (λ line. line.parent == p) (cond c (line ∷ filter (λ line. line.component == i) lines) (filter (λ line. line.component == i) lines))
        ≡ ((e && c) || is_parent lines p i)
    by true true same rest = rw same refl
    by true false same rest = rw same rest
    by false true same rest = rest
    by false false same rest = rest

any-map : (lines : List BillLine) (p : ℕ) (places : List ℕ) → list_any (has_parent lines p) places ≡ list_any (λ line. line.parent == p) (map (line_at lines) places)
any-map lines p [] = refl
any-map lines p (place ∷ places) = ap (λ b. has_parent lines p place || b) (any-map lines p places)

-- so are those at their places
pub parents-at_places : (lines : List BillLine) (p i : ℕ) → list_any (has_parent lines p) (lines_of lines i) ≡ is_parent lines p i
parents-at_places lines p i = any-map lines p (lines_of lines i) ∙ ap (list_any (λ line. line.parent == p)) (lines-are lines i) ∙ parents-in_lines lines p i

-- the one element of a range that is the same as a number, if a test keeps it
same-before : (t : ℕ → Bool) (i a n : ℕ) → i < a → filter (λ x. x == i) (filter t (range_with_len a n)) ≡ []
same-before t i a zero h = refl
same-before t i a (suc n) h = by (t a) (same-before t i (a + 1) n (omega arith))
  where
    by : (b : Bool) → filter (λ x. x == i) (filter t (range_with_len (a + 1) n)) ≡ []
        → filter (λ x. x == i) (cond b (a ∷ filter t (range_with_len (a + 1) n)) (filter t (range_with_len (a + 1) n))) ≡ []
    by true rest = rw (ne_eqb a i (λ e. absurd (omega arith))) rest
    by false rest = rest

pub same-kept : (t : ℕ → Bool) (i a n : ℕ) → a ≤ i → i < a + n → filter (λ x. x == i) (filter t (range_with_len a n)) ≡ cond (t i) (i ∷ []) []
same-kept t i a zero low high = absurd (omega arith)
same-kept t i a (suc n) low high = by (cases_eq a i) (λ h. same-kept t i (a + 1) n h (omega arith))
  where
    here : (b : Bool) → t a ≡ b → a ≡ i → filter (λ x. x == i) (cond b (a ∷ filter t (range_with_len (a + 1) n)) (filter t (range_with_len (a + 1) n))) ≡ cond b (a ∷ []) []
    here true e same = rw (eq-eqb a i same) (ap (λ xs. a ∷ xs) (same-before t i (a + 1) n (omega arith)))
    here false e same = same-before t i (a + 1) n (omega arith)

    later : (b : Bool) → (a ≡ i → ⊥) → filter (λ x. x == i) (filter t (range_with_len (a + 1) n)) ≡ cond (t i) (i ∷ []) []
        → filter (λ x. x == i) (cond b (a ∷ filter t (range_with_len (a + 1) n)) (filter t (range_with_len (a + 1) n))) ≡ cond (t i) (i ∷ []) []
    later true ne rest = rw (ne_eqb a i ne) rest
    later false ne rest = rest

    by : (a ≡ i) ⊎ (a ≡ i → ⊥) → (a + 1 ≤ i → filter (λ x. x == i) (filter t (range_with_len (a + 1) n)) ≡ cond (t i) (i ∷ []) [])
        → filter (λ x. x == i) (cond (t a) (a ∷ filter t (range_with_len (a + 1) n)) (filter t (range_with_len (a + 1) n))) ≡ cond (t i) (i ∷ []) []
    by (inl same) rest = here (t a) refl same ∙ ap (λ (j : ℕ). cond (t j) (j ∷ []) []) same
    by (inr ne) rest = later (t a) ne (rest (omega arith))

-- one more row
values_of-push : (rows : List (Numbered ℕ)) (r : Numbered ℕ) (p : ℕ) → values_of (rows ++ r ∷ []) p ≡ values_of rows p ++ cond (eqb r.number p) (r.value ∷ []) []
values_of-push rows r p =
    ap (map (λ (x : Numbered ℕ). x.value)) (filter-append (λ (x : Numbered ℕ). eqb x.number p) rows (r ∷ []))
    ∙ map-append (λ (x : Numbered ℕ). x.value) (filter (λ (x : Numbered ℕ). eqb x.number p) rows) (cond (eqb r.number p) (r ∷ []) [])
    ∙ ap (λ (xs : List ℕ). values_of rows p ++ xs) (by (eqb r.number p))
  where
    by : (b : Bool) → map (λ (x : Numbered ℕ). x.value) (cond b (r ∷ []) []) ≡ cond b (r.value ∷ []) []
    by true = refl
    by false = refl

-- an item is numbered by the parents in the lines at the first of some places, once, and these are marked
pub record AreNumbered (lines : List BillLine) (places : List ℕ) (k item count : ℕ) (old : List (Numbered ℕ)) (marks : List ℕ) (rows : List (Numbered ℕ)) : Type 0 where
  pub size : length marks ≡ count
  pub marked : All (λ mark. mark ≤ item + 1) marks
  pub named : (p : ℕ) → p < count → nat_lt item (get_or marks p 0) ≡ list_any (has_parent lines p) (take k places)
  pub within : All (λ r. r.number < count) rows
  pub once : (p : ℕ) → values_of rows p ≡ values_of old p ++ cond (list_any (has_parent lines p) (take k places)) (item ∷ []) []

-- an element that is appended to a list at most once
at_most_once : (b e : Bool) (old : List ℕ) (x : ℕ) → (e ≡ true → b ≡ false) → (old ++ cond b (x ∷ []) []) ++ cond e (x ∷ []) [] ≡ old ++ cond (b || e) (x ∷ []) []
at_most_once true true old x apart = let no : true ≡ false = apart refl in absurd cc
at_most_once true false old x apart = append-nil (old ++ x ∷ [])
at_most_once false true old x apart = ap (λ (ys : List ℕ). ys ++ x ∷ []) (append-nil old)
at_most_once false false old x apart = append-nil (old ++ [])

or-kept : (b e : Bool) → (e ≡ true → b ≡ true) → b ≡ (b || e)
or-kept true e same = refl
or-kept false true same = same refl
or-kept false false same = refl

or-true : (b : Bool) → (b || true) ≡ true
or-true true = refl
or-true false = refl

or-false : (b : Bool) → (b || false) ≡ b
or-false true = refl
or-false false = refl

module _ (lines : List BillLine) (places : List ℕ) (k item count : ℕ) (old : List (Numbered ℕ)) (marks : List ℕ) (rows : List (Numbered ℕ)) (are : AreNumbered lines places k item count old marks rows) (parent : ℕ) (h : k < length places)
    (is : parent ≡ (line_at lines (get_or places k 0)).parent) (low : parent < count) where
  abbrev so_far : ℕ → Bool
  so_far p = list_any (has_parent lines p) (take k places)

  more : (p : ℕ) → list_any (has_parent lines p) (take (k + 1) places) ≡ (so_far p || eqb parent p)
  more p = list_any_more (has_parent lines p) places k 0 h ∙ ap (λ (n : ℕ). so_far p || eqb n p) (sym is)

  -- the parent has no mark yet
  pub numbered-more : get_or marks parent 0 ≤ item → AreNumbered lines places (k + 1) item count old (set marks parent (item + 1)) (rows ++ record { number = parent; value = item } ∷ [])
  numbered-more unmarked = record {
    size = length-set marks parent (item + 1) ∙ are.size;
    marked = All-set (λ mark. mark ≤ item + 1) marks parent (item + 1) (omega arith) are.marked;
    named = λ p inside. by p inside (cases_eq p parent);
    within = All-push (λ r. r.number < count) rows (record { number = parent; value = item }) are.within low;
    once = λ p.
        values_of-push rows (record { number = parent; value = item }) p
        ∙ ap (λ (ys : List ℕ). ys ++ cond (eqb parent p) (item ∷ []) []) (are.once p)
        ∙ at_most_once (so_far p) (eqb parent p) (values_of old p) item (λ e. subst (λ (q : ℕ). so_far q ≡ false) (eqb-true parent p e) none)
        ∙ ap (λ (b : Bool). values_of old p ++ cond b (item ∷ []) []) (sym (more p));
  }
    where
      none : so_far parent ≡ false
      none = sym (are.named parent low) ∙ le-ltb item (get_or marks parent 0) unmarked

      by : (p : ℕ) → p < count → (p ≡ parent) ⊎ (p ≡ parent → ⊥) → nat_lt item (get_or (set marks parent (item + 1)) p 0) ≡ list_any (has_parent lines p) (take (k + 1) places)
      by p inside (inl same) =
          ap (λ (q : ℕ). nat_lt item (get_or (set marks parent (item + 1)) q 0)) same
          ∙ ap (nat_lt item) (get_or-set_same marks parent (item + 1) 0 (omega (arith, are.size, low)))
          ∙ lt-ltb item (item + 1) (omega arith)
          ∙ sym (or-true (so_far p))
          ∙ ap (λ (b : Bool). so_far p || b) (sym (eq-eqb parent p (sym same)))
          ∙ sym (more p)
      by p inside (inr other) =
          ap (nat_lt item) (get_or-set_other marks parent p (item + 1) 0 other)
          ∙ are.named p inside
          ∙ sym (or-false (so_far p))
          ∙ ap (λ (b : Bool). so_far p || b) (sym (ne_eqb parent p (λ e. other (sym e))))
          ∙ sym (more p)

  -- the parent has a mark
  pub numbered-already : item < get_or marks parent 0 → AreNumbered lines places (k + 1) item count old marks rows
  numbered-already marked = record {
    size = are.size;
    marked = are.marked;
    named = λ p inside. are.named p inside ∙ same p;
    within = are.within;
    once = λ p. are.once p ∙ ap (λ (b : Bool). values_of old p ++ cond b (item ∷ []) []) (same p);
  }
    where
      some : so_far parent ≡ true
      some = sym (are.named parent low) ∙ lt-ltb item (get_or marks parent 0) marked

      same : (p : ℕ) → so_far p ≡ list_any (has_parent lines p) (take (k + 1) places)
      same p = or-kept (so_far p) (eqb parent p) (λ e. subst (λ (q : ℕ). so_far q ≡ true) (eqb-true parent p e) some) ∙ sym (more p)

-- one more item is numbered by its parents
pub children-more : (lines : List BillLine) (item p : ℕ) (places old new : List ℕ) → places ≡ lines_of lines item → old ≡ filter (λ i. is_parent lines p i) (range_with_len 0 item)
    → new ≡ old ++ cond (list_any (has_parent lines p) places) (item ∷ []) [] → new ≡ filter (λ i. is_parent lines p i) (range_with_len 0 (item + 1))
children-more lines item p places old new at before after =
    after
    ∙ ap (λ (ys : List ℕ). ys ++ cond (list_any (has_parent lines p) places) (item ∷ []) []) before
    ∙ ap (λ (ys : List ℕ). filter (λ i. is_parent lines p i) (range_with_len 0 item) ++ cond (list_any (has_parent lines p) ys) (item ∷ []) []) at
    ∙ ap (λ (b : Bool). filter (λ i. is_parent lines p i) (range_with_len 0 item) ++ cond b (item ∷ []) []) (parents-at_places lines p item)
    ∙ sym (filter-range_more (λ i. is_parent lines p i) item)

-- The parents, numbered by their components.

-- each of the first items, numbered by its components
abbrev pub by_components : (ℕ → List ℕ) → ℕ → List (Numbered ℕ)
by_components components n = flat_map (λ p. map (of_parent p) (components p)) (range_with_len 0 n)

pub by_components-more : (components : ℕ → List ℕ) (n : ℕ) → by_components components (n + 1) ≡ by_components components n ++ map (of_parent n) (components n)
by_components-more components n =
    let each : ℕ → List (Numbered ℕ) = λ p. map (of_parent p) (components p) in
    let longer : range_with_len 0 (n + 1) ≡ range_with_len 0 n ++ n ∷ [] =
    sym (map-id (range_with_len 0 (n + 1))) ∙ map-range_with_len_more (λ x. x) 0 n n (omega arith) ∙ ap (λ (xs : List ℕ). xs ++ n ∷ []) (map-id (range_with_len 0 n)) in
    ap (flat_map each) longer ∙ flat_map-append each (range_with_len 0 n) (n ∷ []) ∙ ap (λ (rows : List (Numbered ℕ)). by_components components n ++ rows) (append-nil (each n))

-- the components of a parent hold an item once or not at all
one-parent : (lines : List BillLine) (count p i : ℕ) → i < count → values_of (map (of_parent p) (children_of lines count p)) i ≡ cond (is_parent lines p i) (p ∷ []) []
one-parent lines count p i inside =
    values_of-all (of_parent p) (children_of lines count p) i
    ∙ ap (map (λ (c : ℕ). p)) (same-kept (λ c. is_parent lines p c) i 0 count (omega arith) (omega arith))
    ∙ by (is_parent lines p i)
  where
    by : (b : Bool) → map (λ (c : ℕ). p) (cond b (i ∷ []) []) ≡ cond b (p ∷ []) []
    by true = refl
    by false = refl

pub parents-grouped : (lines : List BillLine) (count : ℕ) (components : ℕ → List ℕ) → ((p : ℕ) → p < count → components p ≡ children_of lines count p)
    → (n : ℕ) → n ≤ count → (i : ℕ) → i < count → values_of (by_components components n) i ≡ filter (λ p. is_parent lines p i) (range_with_len 0 n)
parents-grouped lines count components are zero small i inside = refl
parents-grouped lines count components are (suc n) small i inside =
    let next : suc n ≡ n + 1 = omega arith in
    let before = parents-grouped lines count components are n (omega arith) i inside in
    ap (λ (m : ℕ). values_of (by_components components m) i) next
    ∙ ap (λ (rows : List (Numbered ℕ)). values_of rows i) (by_components-more components n)
    ∙ values_of-append (by_components components n) (map (of_parent n) (components n)) i
    ∙ ap (λ (xs : List ℕ). xs ++ values_of (map (of_parent n) (components n)) i) before
    ∙ ap (λ (ys : List ℕ). filter (λ p. is_parent lines p i) (range_with_len 0 n) ++ values_of (map (of_parent n) ys) i) (are n (omega arith))
    ∙ ap (λ (xs : List ℕ). filter (λ p. is_parent lines p i) (range_with_len 0 n) ++ xs) (one-parent lines count n i inside)
    ∙ sym (filter-range_more (λ p. is_parent lines p i) n)
    ∙ ap (λ (m : ℕ). filter (λ p. is_parent lines p i) (range_with_len 0 m)) (sym next)
  where
    values_of-append : (rows more : List (Numbered ℕ)) (j : ℕ) → values_of (rows ++ more) j ≡ values_of rows j ++ values_of more j
    values_of-append rows more j =
        ap (map (λ (x : Numbered ℕ). x.value)) (filter-append (λ (x : Numbered ℕ). eqb x.number j) rows more)
        ∙ map-append (λ (x : Numbered ℕ). x.value) (filter (λ (x : Numbered ℕ). eqb x.number j) rows) (filter (λ (x : Numbered ℕ). eqb x.number j) more)

pub parents-numbered : (lines : List BillLine) (count : ℕ) (components : ℕ → List ℕ) → ((p : ℕ) → p < count → components p ≡ children_of lines count p)
    → (n : ℕ) → n ≤ count → All (λ r. r.number < count) (by_components components n)
parents-numbered lines count components are zero small = λ k d h. absurd (omega (arith, h))
parents-numbered lines count components are (suc n) small =
    let Within : List (Numbered ℕ) → Type 0 = λ rows. All (λ (r : Numbered ℕ). r.number < count) rows in
    let next : n + 1 ≡ suc n = omega arith in
    let own : Within (map (of_parent n) (components n)) =
    All-map (λ (r : Numbered ℕ). r.number < count) (of_parent n) (components n)
    (subst (λ (ys : List ℕ). All (λ (c : ℕ). c < count) ys) (sym (are n (omega arith))) (filter-range-below (λ c. is_parent lines n c) count)) in
    subst (λ (m : ℕ). Within (by_components components m)) next
    (subst Within (sym (by_components-more components n))
    (All-append (λ (r : Numbered ℕ). r.number < count) (by_components components n) (map (of_parent n) (components n)) (parents-numbered lines count components are n (omega arith)) own))
