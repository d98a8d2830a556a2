-- The stock on hand of an item, one row at a time.
use Rattle.std.proofs.Common.{ℕ, zero, suc, ◌≡◌, ◌≢◌, ◌∙◌, ◌+◌, ◌<◌, ◌≤◌, Bool, true, false, cond, eqb, List, length, take, set, get_or, map, refl, subst, sym, ap, arith, add-one}
use Rattle.std.specs.Prelude.{sum_by, All}
use Rattle.std.proofs.lemmas.Bool.{eqb-true, eqb-false}
use Rattle.std.proofs.lemmas.List.{get_or_default, get_or-map, get_or-set_same, get_or-set_other, get_or-take, length-map, length-take}
use Rattle.std.specs.List.{range_with_len}
use Rattle.std.proofs.lemmas.Grind.{same_number_lists}
use Rattle.std.proofs.lemmas.List.{take_all}
use Rattle.std.proofs.lemmas.List.FromFn.{get_or-map-range_with_len, length-map-range_with_len}
use Rattle.std.proofs.lemmas.List.Sums.{sum_by-le, sum_by_more}
use Rattle.std.proofs.Math.Seq.{take-length}
use Rattle.mrp_tables.specs.declared.item.Item.{Item}
use Rattle.mrp_tables.specs.declared.rows.StockRow.{StockRow}
use Rattle.mrp_tables.specs.Facts.{AllDiffer, IsStockRow}
use Rattle.mrp_tables.specs.Stock.{items_in_stock}
use Rattle.mrp_phase.proofs.KeptSums.{sum_by-kept}
use Rattle.mrp_master.specs.Supply.{on_hand_of}

-- what a row adds to the stock on hand of an item
abbrev pub added : ℕ → StockRow → ℕ
added item row = cond (eqb row.item item) row.on_hand 0

pub on_hand_is_sum : (rows : List StockRow) (item : ℕ) → on_hand_of rows item ≡ sum_by (added item) rows
on_hand_is_sum rows item = sum_by-kept (λ row. eqb row.item item) (λ (row : StockRow). row.on_hand) rows

-- one more row
pub on_hand_more : (rows : List StockRow) (k : ℕ) (d : StockRow) (item : ℕ) → k < length rows
    → on_hand_of (take (k + 1) rows) item ≡ on_hand_of (take k rows) item + added item (get_or rows k d)
on_hand_more rows k d item h =
    on_hand_is_sum (take (k + 1) rows) item ∙ sum_by_more (added item) rows k d h ∙ ap (λ n. n + added item (get_or rows k d)) (sym (on_hand_is_sum (take k rows) item))

module _ (rows : List StockRow) (differ : AllDiffer (items_in_stock rows)) where
  items_differ : (j k : ℕ) (d : StockRow) → j < k → k < length rows → (get_or rows j d).item ≢ (get_or rows k d).item
  items_differ j k d before within same =
      let count : length (map (λ (r : StockRow). r.item) rows) ≡ length rows = simp length-map in
      differ j k d.item before (omega arith)
      (get_or-map (λ (r : StockRow). r.item) rows j d d.item (omega arith) ∙ same ∙ sym (get_or-map (λ (r : StockRow). r.item) rows k d d.item within))

  -- before its row, nothing is on hand of an item
  pub none_before : (k : ℕ) (d : StockRow) → k < length rows → on_hand_of (take k rows) (get_or rows k d).item ≡ 0
  none_before k d h =
      omega (arith, on_hand_is_sum (take k rows) (get_or rows k d).item, sum_by-le (added (get_or rows k d).item) 0 (take k rows) nothing)
    where
      by : (j : ℕ) (e : StockRow) → j < k → (b : Bool) → eqb (get_or rows j e).item (get_or rows k d).item ≡ b → cond b (get_or rows j e).on_hand 0 ≤ 0
      by j e before true same =
          let read : get_or rows k d ≡ get_or rows k e = get_or_default rows k d e h in
          absurd (items_differ j k e before h (eqb-true (get_or rows j e).item (get_or rows k d).item same ∙ ap (λ (r : StockRow). r.item) read))
      by j e before false other = omega arith

      nothing : All (λ r. added (get_or rows k d).item r ≤ 0) (take k rows)
      nothing j e within =
          let before : j < k = omega (arith, length-take k rows) in
          rw (get_or-take k rows j e before) (by j e before (eqb (get_or rows j e).item (get_or rows k d).item) refl)

  -- the stock on hand of each item, with one more row
  set_at : (on_hand : List ℕ) (k i : ℕ) (d : StockRow) → k < length rows → (get_or rows k d).item < length on_hand
      → get_or on_hand i 0 ≡ on_hand_of (take k rows) i
      → get_or (set on_hand (get_or rows k d).item (get_or rows k d).on_hand) i 0 ≡ on_hand_of (take (k + 1) rows) i
  set_at on_hand k i d h within before = by (eqb (get_or rows k d).item i) refl
    where
      by : (b : Bool) → eqb (get_or rows k d).item i ≡ b → get_or (set on_hand (get_or rows k d).item (get_or rows k d).on_hand) i 0 ≡ on_hand_of (take (k + 1) rows) i
      by true e =
          let same : (get_or rows k d).item ≡ i = eqb-true (get_or rows k d).item i e in
          let none : on_hand_of (take k rows) i ≡ 0 = subst (λ x. on_hand_of (take k rows) x ≡ 0) same (none_before k d h) in
          let here : get_or (set on_hand (get_or rows k d).item (get_or rows k d).on_hand) i 0 ≡ (get_or rows k d).on_hand = subst (λ x. get_or (set on_hand (get_or rows k d).item (get_or rows k d).on_hand) x 0 ≡ (get_or rows k d).on_hand) same (get_or-set_same on_hand (get_or rows k d).item (get_or rows k d).on_hand 0 within) in
          omega (arith, here, none, on_hand_more rows k d i h, ap (λ b. cond b (get_or rows k d).on_hand 0) e)
      by false e =
          let other : i ≢ (get_or rows k d).item = (let no : (get_or rows k d).item ≢ i = eqb-false (get_or rows k d).item i e in omega arith) in
          omega (arith, before, get_or-set_other on_hand (get_or rows k d).item i (get_or rows k d).on_hand 0 other, on_hand_more rows k d i h, ap (λ b. cond b (get_or rows k d).on_hand 0) e)

  pub on_hand_set : (items : List Item) (on_hand : List ℕ) (k i : ℕ) (row : StockRow) → All (IsStockRow items) rows → length on_hand ≡ length items
      → k < length rows → row ≡ get_or rows k row → get_or on_hand i 0 ≡ on_hand_of (take k rows) i
      → get_or (set on_hand row.item row.on_hand) i 0 ≡ on_hand_of (take (k + 1) rows) i
  on_hand_set items on_hand k i row all size h is before =
      let there : (get_or rows k row).item < length items = (all k row h).item in
      subst (λ (r : StockRow). get_or (set on_hand r.item r.on_hand) i 0 ≡ on_hand_of (take (k + 1) rows) i) (sym is) (set_at on_hand k i row h (omega arith) before)

  -- the stock on hand of an item is within a row's limit
  within_more : (items : List Item) (item k : ℕ) (d : StockRow) → All (IsStockRow items) rows → k < length rows
      → on_hand_of (take k rows) item ≤ 1000000000 → on_hand_of (take (k + 1) rows) item ≤ 1000000000
  within_more items item k d all h so_far = by (eqb (get_or rows k d).item item) refl
    where
      by : (b : Bool) → eqb (get_or rows k d).item item ≡ b → on_hand_of (take (k + 1) rows) item ≤ 1000000000
      by true e =
          let none : on_hand_of (take k rows) item ≡ 0 = subst (λ x. on_hand_of (take k rows) x ≡ 0) (eqb-true (get_or rows k d).item item e) (none_before k d h) in
          let few : (get_or rows k d).on_hand ≤ 1000000000 = (all k d h).on_hand in
          omega (arith, none, few, on_hand_more rows k d item h, ap (λ b. cond b (get_or rows k d).on_hand 0) e)
      by false e = omega (arith, so_far, on_hand_more rows k d item h, ap (λ b. cond b (get_or rows k d).on_hand 0) e)

  within_so_far : (items : List Item) (item : ℕ) → All (IsStockRow items) rows → (k : ℕ) → k ≤ length rows → on_hand_of (take k rows) item ≤ 1000000000
  within_so_far items item all zero h = omega arith
  within_so_far items item all (suc k) h =
      rw add-one at (within_more items item k (record { item = 0; on_hand = 0 }) all (omega arith) (within_so_far items item all k (omega arith)))

  pub on_hand_within : (items : List Item) (item : ℕ) → All (IsStockRow items) rows → on_hand_of rows item ≤ 1000000000
  on_hand_within items item all = rw take-length at (within_so_far items item all (length rows) (omega arith))

-- the stock on hand of each item, once every row was read
pub on_hand_of_each : (rows : List StockRow) (on_hand : List ℕ) (n k : ℕ) → length on_hand ≡ n → length rows ≤ k
    → ((i : ℕ) → i < n → get_or on_hand i 0 ≡ on_hand_of (take k rows) i) → on_hand ≡ map (on_hand_of rows) (range_with_len 0 n)
on_hand_of_each rows on_hand n k size all read =
    same_number_lists on_hand (map (on_hand_of rows) (range_with_len 0 n)) (size ∙ sym (length-map-range_with_len (on_hand_of rows) 0 n))
    (λ i h.
    let whole : take k rows ≡ rows = take_all k rows all in
    read i (omega arith) ∙ ap (λ rs. on_hand_of rs i) whole ∙ sym (get_or-map-range_with_len (on_hand_of rows) 0 n i i 0 (omega arith) (omega arith)))
