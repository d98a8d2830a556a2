-- What operations take, one order and one operation at a time.
use Rattle.std.proofs.Common.{◌≡◌, ◌∙◌, ℕ, zero, suc, inl, inr, ◌+◌, ◌-◌, ◌*◌, ◌<◌, ◌≤◌, ◌^◌, Bool, true, false, cond, eqb, List, [], ◌∷◌, length, take, get_or, set, replicate, refl, sym, ap, arith}
use Rattle.std.specs.Prelude.{sum_by, slice_set, ◌⊎◌}
use Rattle.std.specs.Int.{IsInRange}
use Rattle.std.proofs.lemmas.Bool.{cases_order, eq-eqb}
use Rattle.std.proofs.lemmas.Grind.{get_or_default_zero}
use Rattle.std.proofs.lemmas.Nat.{mul-le}
use Rattle.std.proofs.lemmas.List.{get_or_past, length-replicate}
use Rattle.std.proofs.lemmas.List.Sums.{sum_by-cons, sum_by_more, sum_by_more_le}
use Rattle.mrp_qty.specs.Quantity.{greatest_quantity}
use Rattle.mrp_tables.specs.declared.rows.Operation.{Operation}
use Rattle.mrp_phase.specs.Weeks.{in_week, row}
use Rattle.mrp_phase.proofs.KeptSums.{sum_by-kept}
use Rattle.mrp_phase.proofs.WeekRows.{in_week_at, in_week_next, in_week_replicate, in_week_row, length-row, row_is, row_same, with_week_at}
use Rattle.mrp_item.specs.declared.order.Order.{Order}
use Rattle.mrp_item.specs.Dues.{with_more}
use Rattle.mrp_item.specs.Inputs.{Inputs, horizon}
use Rattle.mrp_item.proofs.DueLemmas.{with_more_row}
use Rattle.mrp_load.specs.Bounds.{AreOrders}
use Rattle.mrp_load.specs.Loads.{load_by, loads_by, operation_load, operation_week, orders_in, standard_time}

-- what an order's operation takes in a week
abbrev pub one_time : Operation → ℕ → Order → ℕ
one_time operation week order = cond (eqb (operation_week operation order) week) (standard_time operation order) 0

operation_load-by : (orders : List Order) (operation : Operation) (week : ℕ) → operation_load orders operation week ≡ sum_by (one_time operation week) orders
operation_load-by orders operation week = sum_by-kept (λ order. eqb (operation_week operation order) week) (standard_time operation) orders

one_time-here : (operation : Operation) (order : Order) → one_time operation (operation_week operation order) order ≡ standard_time operation order
one_time-here operation order = ap (λ b. cond b (standard_time operation order) 0) (eq-eqb (operation_week operation order) (operation_week operation order) refl)

-- one more order
pub operation_load-more : (orders : List Order) (k : ℕ) (o : Order) (operation : Operation) (week : ℕ) → k < length orders → o ≡ get_or orders k o
    → operation_load (take (k + 1) orders) operation week ≡ operation_load (take k orders) operation week + one_time operation week o
operation_load-more orders k o operation week h is =
    omega (
      arith,
      operation_load-by (take (k + 1) orders) operation week,
      operation_load-by (take k orders) operation week,
      sum_by_more (one_time operation week) orders k o h,
      ap (one_time operation week) is,
    )

-- what the orders so far take in the next one's week, and it, is within what all take
pub operation_load-within : (orders : List Order) (k : ℕ) (o : Order) (operation : Operation) → k < length orders → o ≡ get_or orders k o
    → operation_load (take k orders) operation (operation_week operation o) + standard_time operation o ≤ operation_load orders operation (operation_week operation o)
operation_load-within orders k o operation h is =
    omega (
      arith,
      operation_load-by orders operation (operation_week operation o),
      operation_load-by (take k orders) operation (operation_week operation o),
      sum_by_more_le (one_time operation (operation_week operation o)) orders k o h,
      ap (one_time operation (operation_week operation o)) is,
      one_time-here operation o,
    )

-- a row with more in one of its weeks
pub changed : (xs : List ℕ) (week more n : ℕ) → length xs ≡ n → 0 < week → week ≤ n → set xs (week - 1) (get_or xs (week - 1) 0 + more) ≡ row n (with_more xs week more)
changed xs week more n e a b =
    ap (λ x. set xs (week - 1) (x + more)) (sym (in_week_at xs week a)) ∙ sym (with_week_at xs week (in_week xs week + more) a) ∙ with_more_row xs week more n e a b

-- the row with what the orders so far take, and with what the next takes
pub row-more : (before : List ℕ) (orders : List Order) (k : ℕ) (o : Order) (operation : Operation) (xs : List ℕ) (n : ℕ) → k < length orders → o ≡ get_or orders k o
    → xs ≡ row n (λ week. in_week before week + operation_load (take k orders) operation week)
    → row n (with_more xs (operation_week operation o) (standard_time operation o)) ≡ row n (λ week. in_week before week + operation_load (take (k + 1) orders) operation week)
row-more before orders k o operation xs n h is so_far =
    row_same (with_more xs (operation_week operation o) (standard_time operation o)) (λ week. in_week before week + operation_load (take (k + 1) orders) operation week) n
    (λ week a b.
    omega (
      arith,
      ap (λ ys. in_week ys week) so_far,
      in_week_row (λ w. in_week before w + operation_load (take k orders) operation w) n week a b,
      operation_load-more orders k o operation week h is,
    ))

-- of no orders nothing is added
pub row-none : (before : List ℕ) (operation : Operation) → before ≡ row (length before) (λ week. in_week before week + operation_load [] operation week)
row-none before operation = row_is before (λ week. in_week before week + operation_load [] operation week) (length before) refl (λ week a b. omega arith)

-- what an order's operation takes at most
standard_time-within : (operation : Operation) (order : Order) → operation.setup ≤ 1000000 → operation.run ≤ 1000000000 → standard_time operation order ≤ 1000000000 + 1000000000 * order.start
standard_time-within operation order setup run = omega (arith, setup, mul-le operation.run order.start 1000000000 order.start run (omega arith))

times-within : (operation : Operation) (week : ℕ) → operation.setup ≤ 1000000 → operation.run ≤ 1000000000 → (orders : List Order)
    → sum_by (one_time operation week) orders ≤ 1000000000 * length orders + 1000000000 * sum_by (λ o. o.start) orders
times-within operation week setup run [] = omega arith
times-within operation week setup run (o ∷ orders) =
    by (eqb (operation_week operation o) week) refl (times-within operation week setup run orders)
  where
    start : Order → ℕ
    start x = x.start

    by : (b : Bool) → eqb (operation_week operation o) week ≡ b → sum_by (one_time operation week) orders ≤ 1000000000 * length orders + 1000000000 * sum_by start orders
        → sum_by (one_time operation week) (o ∷ orders) ≤ 1000000000 * length (o ∷ orders) + 1000000000 * sum_by start (o ∷ orders)
    by true e more =
        let long : length (o ∷ orders) ≡ length orders + 1 = omega arith in
        omega (arith, more, long, sum_by-cons start o orders, sum_by-cons (one_time operation week) o orders, ap (λ b. cond b (standard_time operation o) 0) e, standard_time-within operation o setup run)
    by false e more =
        let long : length (o ∷ orders) ≡ length orders + 1 = omega arith in
        omega (arith, more, long, sum_by-cons start o orders, sum_by-cons (one_time operation week) o orders, ap (λ b. cond b (standard_time operation o) 0) e)

-- what an operation takes of an item's orders in a week
pub operation_load-few : (operation : Operation) (orders : List Order) (week : ℕ) → operation.setup ≤ 1000000 → operation.run ≤ 1000000000 → length orders < 2 ^ 64
    → sum_by (λ o. o.start) orders ≤ greatest_quantity → operation_load orders operation week ≤ 2 ^ 95
operation_load-few operation orders week setup run few starts =
    omega (arith, few, starts, operation_load-by orders operation week, times-within operation week setup run orders)

-- nothing in each week is what no operation takes
pub load_by-none : (s : Inputs) (n : ℕ) → replicate n 0 ≡ row n (load_by s [])
load_by-none s n = row_is (replicate n 0) (load_by s []) n (length-replicate n 0) (λ week a b. in_week_replicate n week)

-- one more operation, as it is read
pub load_by-more : (s : Inputs) (operations : List Operation) (k : ℕ) (d : Operation) (week : ℕ) → k < length operations
    → load_by s (take (k + 1) operations) week ≡ load_by s (take k operations) week + operation_load (orders_in s (get_or operations k d).item) (get_or operations k d) week
load_by-more s operations k d week h = sum_by_more (λ operation. operation_load (orders_in s operation.item) operation week) operations k d h

-- a row has what the first operations take, each a bounded time
pub record IsLoaded (s : Inputs) (operations : List Operation) (k : ℕ) (xs : List ℕ) : Type 0 where
  pub loads : xs ≡ row (horizon s) (load_by s (take k operations))
  pub few : (week : ℕ) → load_by s (take k operations) week ≤ k * 2 ^ 95

-- the orders of an operation's item, and the row with what it takes of them
pub record IsAdded (s : Inputs) (o : Operation) (orders : List Order) (xs ys : List ℕ) : Type 0 where
  pub own : orders ≡ orders_in s o.item
  pub loads : ys ≡ row (length xs) (λ week. in_week xs week + operation_load orders o week)
  pub within : (week : ℕ) → operation_load orders o week ≤ 2 ^ 95

pub load_row-more : (s : Inputs) (operations : List Operation) (k : ℕ) (d : Operation) (orders : List Order) (xs ys : List ℕ) → k < length operations
    → IsAdded s (get_or operations k d) orders xs ys → IsLoaded s operations k xs → IsLoaded s operations (k + 1) ys
load_row-more s operations k d orders xs ys h added so_far =
    let n : ℕ = horizon s in
    let o : Operation = get_or operations k d in
    let long : length xs ≡ n = ap length so_far.loads ∙ length-row (load_by s (take k operations)) n in
    record {
      loads = added.loads ∙ ap (λ m. row m (λ week. in_week xs week + operation_load orders o week)) long
          ∙ row_same (λ week. in_week xs week + operation_load orders o week) (load_by s (take (k + 1) operations)) n
          (λ week a b.
          omega (
            arith,
            ap (λ (zs : List ℕ). in_week zs week) so_far.loads,
            in_week_row (load_by s (take k operations)) n week a b,
            load_by-more s operations k d week h,
            ap (λ (os : List Order). operation_load os o week) added.own,
          ));
      few = λ week. omega (arith, load_by-more s operations k d week h, ap (λ (os : List Order). operation_load os o week) added.own, added.within week, so_far.few week);
    }

-- an order of a plan, by its place, has its operation in a week of the horizon
week-within : (n : ℕ) (orders : List Order) (k : ℕ) (o : Order) (operation : Operation) → AreOrders n orders → k < length orders → o ≡ get_or orders k o → IsInRange 1 n (operation_week operation o)
week-within n orders k o operation are h is =
    let due : IsInRange 1 n (get_or orders k o).due = are.due k o h in
    let released : 1 ≤ (get_or orders k o).release = are.released k o h in
    let same-due : o.due ≡ (get_or orders k o).due = ap (λ (x : Order). x.due) is in
    let same-release : o.release ≡ (get_or orders k o).release = ap (λ (x : Order). x.release) is in
    (omega (arith, due.0, released, same-due, same-release), omega (arith, due.1, same-due))

-- the next order's time goes into its week's sum
pub sum-fits : (before : List ℕ) (orders : List Order) (k : ℕ) (o : Order) (operation : Operation) (xs : List ℕ) (week x time : ℕ) → AreOrders (length before) orders
    → operation.setup ≤ 1000000 → operation.run ≤ 1000000000 → ((t : ℕ) → in_week before t ≤ 2 ^ 120) → k < length orders → o ≡ get_or orders k o
    → xs ≡ row (length before) (λ t. in_week before t + operation_load (take k orders) operation t) → week ≡ operation_week operation o → time ≡ standard_time operation o
    → x ≡ get_or xs (week - 1) x → x + time < 2 ^ 128
sum-fits before orders k o operation xs week x time are setup run room h is so_far here takes read =
    let n : ℕ = length before in
    let range : IsInRange 1 n (operation_week operation o) = week-within n orders k o operation are h is in
    let long : length xs ≡ n = ap length so_far ∙ length-row (λ t. in_week before t + operation_load (take k orders) operation t) n in
    let cell : get_or xs (week - 1) x ≡ get_or xs (week - 1) 0 = get_or_default_zero xs (week - 1) x (omega (arith, range.0, range.1, here, long)) in
    omega (
      arith,
      read,
      cell,
      here,
      takes,
      in_week_at xs week (omega (arith, here, range.0)),
      ap (λ (ys : List ℕ). in_week ys week) so_far,
      in_week_row (λ t. in_week before t + operation_load (take k orders) operation t) n week (omega (arith, here, range.0)) (omega (arith, here, range.1)),
      ap (operation_load (take k orders) operation) here,
      operation_load-within orders k o operation h is,
      operation_load-few operation orders (operation_week operation o) setup run are.few are.starts,
      room week,
    )

-- and makes the row with one more order
pub set-more : (before : List ℕ) (orders : List Order) (k : ℕ) (o : Order) (operation : Operation) (xs : List ℕ) (week x time : ℕ) → AreOrders (length before) orders
    → k < length orders → o ≡ get_or orders k o
    → xs ≡ row (length before) (λ t. in_week before t + operation_load (take k orders) operation t) → week ≡ operation_week operation o → time ≡ standard_time operation o
    → x ≡ get_or xs (week - 1) x → slice_set xs (week - 1) (x + time) ≡ row (length before) (λ t. in_week before t + operation_load (take (k + 1) orders) operation t)
set-more before orders k o operation xs week x time are h is so_far here takes read =
    let n : ℕ = length before in
    let range : IsInRange 1 n (operation_week operation o) = week-within n orders k o operation are h is in
    let low : 0 < week = omega (arith, here, range.0) in
    let high : week ≤ n = omega (arith, here, range.1) in
    let long : length xs ≡ n = ap length so_far ∙ length-row (λ t. in_week before t + operation_load (take k orders) operation t) n in
    let cell : x ≡ get_or xs (week - 1) 0 = read ∙ get_or_default_zero xs (week - 1) x (omega (arith, low, high, long)) in
    ap (λ y. set xs (week - 1) (y + time)) cell
    ∙ changed xs week time n long low high
    ∙ ap (λ y. row n (with_more xs week y)) takes
    ∙ ap (λ w. row n (with_more xs w (standard_time operation o))) here
    ∙ row-more before orders k o operation xs n h is so_far

-- what each week of a row is at most
pub row-within : (f : ℕ → ℕ) (n most : ℕ) → ((t : ℕ) → f t ≤ most) → (week : ℕ) → in_week (row n f) week ≤ most
row-within f n most within zero = unfold in_week in omega arith
row-within f n most within (suc t) =
    let next : suc t ≡ t + 1 = omega arith in
    rw next (by (cases_order t n))
  where
    by : (t ≡ n) ⊎ ((t < n) ⊎ (n < t)) → in_week (row n f) (t + 1) ≤ most
    by (inr (inl low)) = omega (arith, in_week_row f n (t + 1) (omega arith) (omega (arith, low)), within (t + 1))
    by (inr (inr high)) = omega (arith, in_week_next (row n f) t, get_or_past (row n f) t 0 (omega (arith, high, length-row f n)))
    by (inl same) = omega (arith, in_week_next (row n f) t, get_or_past (row n f) t 0 (omega (arith, same, length-row f n)))

-- the loads of some operations, week by week
pub loads_by-row : (s : Inputs) (operations : List Operation) → loads_by s operations ≡ row (horizon s) (load_by s operations)
unfolding loads_by
loads_by-row s operations = refl
