-- The operations that load overloads: of which orders they are, and that their times make up the load.
use Rattle.std.proofs.Common.{◌≡◌, ◌∙◌, ◌+◌, ◌-◌, ◌^◌, ◌<◌, ◌≤◌, ℕ, Bool, true, false, Bor, Option, None, Some, List, [], ◌∷◌, ◌++◌, drop, length, take, refl, sym, ap, subst, arith}
use Rattle.std.specs.Prelude.{IsPermutation, ◌==◌, ◌&&◌, if◌then◌else◌, option_map}
use Rattle.std.specs.List.{All, Contains, filter, flat_map, range_with_len}
use Rattle.std.specs.List.Sorted.{IsNonDecreasingBy}
use Rattle.std.specs.Option.{IfSome, option_copied, option_to_list}
use Rattle.std.proofs.lemmas.Bool.{le-leb, lt-leb}
use Rattle.std.proofs.lemmas.List.Elements.{All-cons, All-filter, All-map, All-nil}
use Rattle.std.proofs.lemmas.List.Folds.{list_any_at}
use Rattle.std.proofs.lemmas.List.FromFn.{get_or-range_with_len, length-range_with_len}
use Rattle.std.proofs.lemmas.List.Sorted.{sum_by-IsPermutation}
use Rattle.std.proofs.lemmas.List.Sums.{sum_by-take-drop}
use Rattle.mrp_cal.specs.DateText.{◌>>=◌}
use Rattle.mrp_qty.specs.Quantity.{quantity_of}
use Rattle.mrp_facts.specs.Facts.{place_named}
use Rattle.mrp_tables.specs.Tables.{Tables}
use Rattle.mrp_work.specs.Work.{all_work, is_asked, is_at, operations_of, time_of, total, work_of, work_of_order}
use Rattle.mrp_work.specs.declared.order.Work.{Work}
use Rattle.mrp_work.specs.declared.order.WorkOrder.{WorkOrder}
use Rattle.mrp_page.specs.Amounts.{amount}
use Rattle.mrp_page.specs.Explained.{falling_time, left_html, more_works_html, order_name_html, order_work, time_html, time_share_row, work_line, works_first, works_or_none, works_table}
use Rattle.mrp_page.specs.Frame.{count_row}
use Rattle.mrp_page.specs.layout.Lists.{grid_end, row_open}
use Rattle.mrp_page.specs.layout.Work.{work_back, work_blank, work_head, work_operation, work_other, work_rest, work_share, work_unknown}
use Rattle.mrp_page.specs.Numbering.{row_at}
use Rattle.mrp_page.specs.Row.{RowView, cell_at}
use Rattle.mrp_page.specs.Scene.{SceneView}
use Rattle.mrp_page.specs.Shares.{minutes_html, share_row}
use Rattle.mrp_page.specs.Template.{dated_html, row_html}
use Rattle.mrp_page.specs.Work.{WorkView, centre_named, order_of_row, place_of_load, places_of_loads, work_orders, works_at, works_of}
use Rattle.mrp_page.specs.declared.limits.TheConstants.{SOME_ROWS}
use Rattle.mrp_qty.specs.Minutes.{minutes_text_of}
use Rattle.mrp_page.proofs.ByKey.{sorted-non-decreasing, sorted-permutes}
use Rattle.mrp_page.proofs.made.Rows.{all-flat, contains-flat}

-- Each operation is of an order that is kept.

order-within : (t : Tables) (place : ℕ) (r : RowView) (n : ℕ) → place < n → All (λ (o : WorkOrder). o.number < n) (option_to_list (order_of_row t place r))
order-within t place r n within = by (place_named t (cell_at r 0))
  where
    IsWithin : WorkOrder → Type 0
    IsWithin o = o.number < n

    started : (item : ℕ) (o : Option ℕ) → All (λ (o : WorkOrder). o.number < n) (option_to_list (option_map (λ start. record { number = place; item = item; due = amount (cell_at r 3); release = amount (cell_at r 6); start = start }) o))
    started item None = All-nil (λ (o : WorkOrder). o.number < n)
    started item (Some start) = All-cons (λ (o : WorkOrder). o.number < n) (record { number = place; item = item; due = amount (cell_at r 3); release = amount (cell_at r 6); start = start }) [] within (All-nil (λ (o : WorkOrder). o.number < n))

    by : (o : Option ℕ) → All (λ (o : WorkOrder). o.number < n) (option_to_list (o >>= (λ item. option_map (λ start. record { number = place; item = item; due = amount (cell_at r 3); release = amount (cell_at r 6); start = start }) (quantity_of (amount (cell_at r 5))))))
    by None = All-nil (λ (o : WorkOrder). o.number < n)
    by (Some item) = started item (quantity_of (amount (cell_at r 5)))

range-within : (n : ℕ) → All (λ (k : ℕ). k < n) (range_with_len 0 n)
range-within n = λ k d within.
    let inside : k < n = omega (arith, within, length-range_with_len 0 n) in
    omega (arith, inside, get_or-range_with_len 0 n k d inside)

orders-within : (t : Tables) (orders : List RowView) → All (λ (o : WorkOrder). o.number < length orders) (work_orders t orders)
orders-within t orders =
    all-flat (λ (k : ℕ). k < length orders) (λ (o : WorkOrder). o.number < length orders) (λ place. option_to_list (order_of_row t place (row_at orders place))) (λ place within. order-within t place (row_at orders place) (length orders) within) (range_with_len 0 (length orders)) (range-within (length orders))

works-within : (work : WorkView) (centre week : ℕ) → All (λ (w : Work). w.order < length work.orders) (filter (is_at centre week) (all_work work.facts.tables.routings (work_orders work.facts.tables work.orders)))
works-within work centre week =
    let t : Tables = work.facts.tables in
    let n : ℕ = length work.orders in
    All-filter (is_at centre week) (λ (w : Work). w.order < n) (all_work t.routings (work_orders t work.orders))
    (all-flat (λ (o : WorkOrder). o.number < n) (λ (w : Work). w.order < n) (work_of_order t.routings)
    (λ o within. All-map (λ (w : Work). w.order < n) (work_of o) (operations_of t.routings o.item) (λ k d inside. within))
    (work_orders t work.orders) (orders-within t work.orders))

found-within : (work : WorkView) (centre week : ℕ) (works : List Work) → works_at work centre week ≡ Some works → All (λ (w : Work). w.order < length work.orders) works
found-within work centre week works is = by (is_asked (places_of_loads work.facts.tables work.asked) centre week) is
  where
    all : List Work
    all = filter (is_at centre week) (all_work work.facts.tables.routings (work_orders work.facts.tables work.orders))

    by : (b : Bool) → (if b then Some all else None) ≡ Some works → All (λ (w : Work). w.order < length work.orders) works
    by true same =
        let these : all ≡ works = cc in
        subst (λ (ws : List Work). All (λ (w : Work). w.order < length work.orders) ws) these (works-within work centre week)
    by false same = absurd cc

pub each-within : (work : WorkView) (load : RowView) (works : List Work) → works_of work load ≡ Some works → All (λ (w : Work). w.order < length work.orders) works
each-within work load works is = by (place_of_load work.facts.tables load) is
  where
    by : (o : Option (ℕ × ℕ)) → (o >>= (λ place. works_at work place.0 place.1)) ≡ Some works → All (λ (w : Work). w.order < length work.orders) works
    by None same = absurd cc
    by (Some place) same = found-within work place.0 place.1 works same

-- What is found of an overload that is asked for.

same-number : (n : ℕ) → (n == n) ≡ true
same-number n = grind arith

pub works-are : (work : WorkView) (load : RowView) (centre : ℕ) → centre_named work.facts.tables (cell_at load 0) ≡ Some centre → Contains work.asked load
    → works_of work load ≡ Some (filter (is_at centre (amount (cell_at load 1))) (all_work work.facts.tables.routings (work_orders work.facts.tables work.orders)))
works-are work load centre named has =
    let t : Tables = work.facts.tables in
    let week : ℕ = amount (cell_at load 1) in
    let all : List Work = filter (is_at centre week) (all_work t.routings (work_orders t work.orders)) in
    let place : place_of_load t load ≡ Some (centre, week) = ap (option_map (λ (c : ℕ). (c, week))) named in
    let at : Contains (option_to_list (place_of_load t load)) (centre, week) = subst (λ (o : Option (ℕ × ℕ)). Contains (option_to_list o) (centre, week)) (sym place) (0, omega arith, refl) in
    let among : Contains (places_of_loads t work.asked) (centre, week) = contains-flat (λ load. option_to_list (place_of_load t load)) work.asked load (centre, week) has.0 has.1 has.2 at in
    let passes : ℕ × ℕ → Bool = λ (p : ℕ × ℕ). (p.0 == centre) && (p.1 == week) in
    let here : passes (centre, week) ≡ true = rw (same-number centre, same-number week) refl in
    let asked : is_asked (places_of_loads t work.asked) centre week ≡ true = list_any_at passes (places_of_loads t work.asked) among.0 (centre, week) among.1 (ap passes among.2 ∙ here) in
    ap (λ (o : Option (ℕ × ℕ)). o >>= (λ place. works_at work place.0 place.1)) place ∙ ap (λ (b : Bool). if b then Some all else None) asked

-- Operations in their order, and their times.

pub works-once : (works : List Work) → IsPermutation works (works_first works)
works-once works = sorted-permutes falling_time works

pub works-fall : (works : List Work) → IsNonDecreasingBy falling_time (works_first works)
works-fall works = sorted-non-decreasing falling_time works

-- an amount is less than the greatest number of a total
amount-small : (text : List ℕ) → amount text < 2 ^ 128 - 1
amount-small text = omega arith

pub exact-rest : (works : List Work) (load : RowView) → total works ≤ amount (cell_at load 2) → total (drop SOME_ROWS (works_first works)) ≡ time_of (drop SOME_ROWS (works_first works))
exact-rest works load within =
    let halves : time_of (take SOME_ROWS (works_first works)) + time_of (drop SOME_ROWS (works_first works)) ≡ time_of (works_first works) = sum_by-take-drop (λ (w : Work). w.time) (works_first works) SOME_ROWS in
    let same : time_of (works_first works) ≡ time_of works = sum_by-IsPermutation (λ (w : Work). w.time) works (works_first works) (works-once works) in
    let small : amount (cell_at load 2) < 2 ^ 128 - 1 = amount-small (cell_at load 2) in
    omega (arith, halves, same, small, within)

pub parts-make-load : (works : List Work) (load : RowView) → total works ≤ amount (cell_at load 2) → (time_of (take SOME_ROWS (works_first works)) + total (drop SOME_ROWS (works_first works))) + (amount (cell_at load 2) - total works) ≡ amount (cell_at load 2)
parts-make-load works load within =
    let halves : time_of (take SOME_ROWS (works_first works)) + time_of (drop SOME_ROWS (works_first works)) ≡ time_of (works_first works) = sum_by-take-drop (λ (w : Work). w.time) (works_first works) SOME_ROWS in
    let same : time_of (works_first works) ≡ time_of works = sum_by-IsPermutation (λ (w : Work). w.time) works (works_first works) (works-once works) in
    let small : amount (cell_at load 2) < 2 ^ 128 - 1 = amount-small (cell_at load 2) in
    omega (arith, halves, same, small, within)

-- What stands of them.

pub drawn-is : (scene : SceneView) (orders : List RowView) (load : RowView) (works : List Work) → total works ≤ amount (cell_at load 2) → works_or_none scene orders load works ≡ row_html work_head (share_row load) ++ (flat_map (work_line scene orders load) (take SOME_ROWS (works_first works)) ++ (more_works_html load (drop SOME_ROWS (works_first works)) ++ (left_html load (amount (cell_at load 2) - total works) ++ grid_end)))
unfolding works_or_none works_table
drawn-is scene orders load works within = ap (λ (b : Bool). if b then works_table scene orders load works else work_unknown) (le-leb (total works) (amount (cell_at load 2)) within)

pub too-much-is : (scene : SceneView) (orders : List RowView) (load : RowView) (works : List Work) → amount (cell_at load 2) < total works → works_or_none scene orders load works ≡ work_unknown
unfolding works_or_none
too-much-is scene orders load works over = ap (λ (b : Bool). if b then works_table scene orders load works else work_unknown) (lt-leb (total works) (amount (cell_at load 2)) over)

pub one-is : (scene : SceneView) (order load : RowView) (work : Work) → order_work scene order load work ≡ row_open ++ (order_name_html scene order ++ (row_html work_operation (count_row work.operation [] []) ++ (time_html load work.time ++ dated_html scene.tables work_back order)))
unfolding order_work
one-is scene order load work = refl

pub others-are : (load : RowView) (work : Work) (works : List Work) → more_works_html load (work ∷ works) ≡ row_html work_rest (count_row (length (work ∷ works)) [] []) ++ (time_html load (total (work ∷ works)) ++ work_blank)
unfolding more_works_html
others-are load work works =
    let some : (length (work ∷ works) == 0) ≡ false = grind arith in
    ap (λ (b : Bool). if b then [] else row_html work_rest (count_row (length (work ∷ works)) [] []) ++ (time_html load (total (work ∷ works)) ++ work_blank)) some

pub left-is : (load : RowView) (time : ℕ) → 0 < time → left_html load time ≡ work_other ++ (time_html load time ++ work_blank)
unfolding left_html
left-is load time some =
    let more : (time == 0) ≡ false = grind arith in
    ap (λ (b : Bool). if b then [] else work_other ++ (time_html load time ++ work_blank)) more

pub minutes-are : (load : RowView) (time : ℕ) → time_html load time ≡ minutes_html (minutes_text_of time) ++ row_html work_share (time_share_row load time)
unfolding time_html
minutes-are load time = refl

-- what is lent of the operations that are found
pub lent-within : (work : WorkView) (load : RowView) (o : Option (Bor (List Work))) → option_copied o ≡ works_of work load → IfSome o (λ works. All (λ (w : Work). w.order < length work.orders) works.now)
lent-within work load None is = tt
lent-within work load (Some works) is = each-within work load works.now (sym is)
