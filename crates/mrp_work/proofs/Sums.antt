-- Times of operations, added up.
use Rattle.std.proofs.Common.{◌≡◌, ◌∙◌, ◌+◌, ◌-◌, ◌*◌, ◌^◌, ◌<◌, ◌≤◌, ◌++◌, ℕ, Bool, true, false, cond, List, [], ◌∷◌, drop, map, take, min, refl, sym, ap, arith}
use Rattle.std.specs.Prelude.{◌==◌, ◌&&◌, sum_by}
use Rattle.std.specs.List.{filter, flat_map}
use Rattle.std.proofs.lemmas.List.Elements.{filter-append}
use Rattle.std.proofs.lemmas.List.Sums.{sum_by-append, sum_by-cons, sum_by-take-drop}
use Rattle.mrp_tables.specs.declared.rows.Operation.{Operation}
use Rattle.mrp_work.specs.Work.{all_work, is_at, operation_week, operations_of, standard_time, time_of, total, work_of, work_of_order}
use Rattle.mrp_work.specs.declared.order.Work.{Work}
use Rattle.mrp_work.specs.declared.order.WorkOrder.{WorkOrder}

module _ (centre week : ℕ) where
  -- the operations of an order that are here
  abbrev pub is-here : WorkOrder → Operation → Bool
  is-here order operation = (operation.centre == centre) && (operation_week operation order == week)

  time-of-operations : (order : WorkOrder) (operations : List Operation) → time_of (filter (is_at centre week) (map (work_of order) operations)) ≡ sum_by (λ operation. standard_time operation order) (filter (is-here order) operations)
  time-of-operations order [] = refl
  time-of-operations order (operation ∷ operations) = by (is-here order operation) (time-of-operations order operations)
    where
      works : List Work
      works = filter (is_at centre week) (map (work_of order) operations)

      others : List Operation
      others = filter (is-here order) operations

      by : (b : Bool) → time_of works ≡ sum_by (λ o. standard_time o order) others → time_of (cond b (work_of order operation ∷ works) works) ≡ sum_by (λ o. standard_time o order) (cond b (operation ∷ others) others)
      by true rest =
          sum_by-cons (λ (work : Work). work.time) (work_of order operation) works ∙ ap (λ (n : ℕ). standard_time operation order + n) rest
          ∙ sym (sum_by-cons (λ (o : Operation). standard_time o order) operation others)
      by false rest = rest

  pub time-of-orders : (routings : List Operation) (orders : List WorkOrder)
      → time_of (filter (is_at centre week) (all_work routings orders)) ≡ sum_by (λ order. sum_by (λ operation. standard_time operation order) (filter (is-here order) (operations_of routings order.item))) orders
  time-of-orders routings [] = refl
  time-of-orders routings (order ∷ orders) =
      let own : List Work = work_of_order routings order in
      let others : List Work = all_work routings orders in
      let of-order : WorkOrder → ℕ = λ (o : WorkOrder). sum_by (λ operation. standard_time operation o) (filter (is-here o) (operations_of routings o.item)) in
      ap time_of (filter-append (is_at centre week) own others) ∙ sum_by-append (λ (work : Work). work.time) (filter (is_at centre week) own) (filter (is_at centre week) others)
      ∙ ap (λ (n : ℕ). n + time_of (filter (is_at centre week) others)) (time-of-operations order (operations_of routings order.item))
      ∙ ap (λ (n : ℕ). of-order order + n) (time-of-orders routings orders) ∙ sym (sum_by-cons of-order order orders)

-- what is below the greatest number is exact
pub total-exact : (works : List Work) (load : ℕ) → total works ≤ load → load < 2 ^ 128 - 1 → total works ≡ time_of works
total-exact works load within small = omega (arith, within, small)

pub parts-whole : (works : List Work) (first load : ℕ) → total works ≤ load → load < 2 ^ 128 - 1 → (total (take first works) + total (drop first works)) + (load - total works) ≡ load
parts-whole works first load within small =
    let halves : time_of (take first works) + time_of (drop first works) ≡ time_of works = sum_by-take-drop (λ (work : Work). work.time) works first in
    let whole : total works ≡ time_of works = total-exact works load within small in
    omega (arith, halves, whole, within, small)
