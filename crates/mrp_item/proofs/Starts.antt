-- The starts of orders, one order at a time.
use Rattle.std.proofs.Common.{◌≡◌, ℕ, zero, suc, ◌+◌, ◌-◌, ◌<◌, ◌≤◌, Bool, true, false, cond, eqb, List, [], ◌∷◌, ◌++◌, length, take, map, get_or, refl, ap, arith}
use Rattle.std.specs.Prelude.{filter, flat_map, sum_by}
use Rattle.std.proofs.lemmas.Bool.{eq-eqb}
use Rattle.std.proofs.lemmas.List.Sums.{sum_by-cons, sum_by-append, sum_by_more_le}
use Rattle.mrp_qty.specs.Quantity.{greatest_quantity}
use Rattle.mrp_phase.specs.Weeks.{weeks}
use Rattle.mrp_phase.proofs.WeekRows.{flat_map-weeks_suc}
use Rattle.mrp_item.specs.declared.order.Order.{Order}
use Rattle.mrp_item.specs.declared.due.Due.{Due}
use Rattle.mrp_item.specs.Dues.{due_in}

abbrev pub start : Order → ℕ
start o = o.start

-- the starts of the orders for what is due in a week, row by row
abbrev pub one_start : (ℕ → Order) → ℕ → Due → ℕ
one_start f week d = cond (eqb d.week week) (f d.quantity).start 0

starts_of_dues : (f : ℕ → Order) (week : ℕ) (dues : List Due) → sum_by start (map f (due_in week dues)) ≡ sum_by (one_start f week) dues
starts_of_dues f week [] = refl
starts_of_dues f week (d ∷ dues) = by (eqb d.week week) refl (starts_of_dues f week dues)
  where
    rest : List Order
    rest = map f (due_in week dues)

    by : (b : Bool) → eqb d.week week ≡ b → sum_by start rest ≡ sum_by (one_start f week) dues
        → sum_by start (map f (map (λ (x : Due). x.quantity) (cond b (d ∷ filter (λ x. eqb x.week week) dues) (filter (λ x. eqb x.week week) dues)))) ≡ sum_by (one_start f week) (d ∷ dues)
    by true e more = omega (arith, more, sum_by-cons start (f d.quantity) rest, sum_by-cons (one_start f week) d dues, ap (λ b. cond b (f d.quantity).start 0) e)
    by false e more = omega (arith, more, sum_by-cons (one_start f week) d dues, ap (λ b. cond b (f d.quantity).start 0) e)

-- too much in one more order is too much in all
pub firm_past : (f : ℕ → Order) (week : ℕ) (dues : List Due) (k : ℕ) (d : Due) (old : List Order) → k < length dues → d ≡ get_or dues k d → d.week ≡ week
    → greatest_quantity < sum_by start (old ++ map f (due_in week (take k dues))) + (f d.quantity).start
    → greatest_quantity < sum_by start (old ++ map f (due_in week dues))
firm_past f week dues k d old h is same past =
    omega (
      arith,
      past,
      sum_by-append start old (map f (due_in week (take k dues))),
      sum_by-append start old (map f (due_in week dues)),
      starts_of_dues f week (take k dues),
      starts_of_dues f week dues,
      sum_by_more_le (one_start f week) dues k d h,
      ap (one_start f week) is,
      ap (λ b. cond b (f d.quantity).start 0) (eq-eqb d.week week same),
    )

starts_by : (F : ℕ → List Order) (m k : ℕ) → sum_by start (flat_map F (weeks m)) ≤ sum_by start (flat_map F (weeks (k + m)))
starts_by F m zero =
    let e : 0 + m ≡ m = omega arith in
    rw e (omega arith)
starts_by F m (suc k) =
    let e : suc k + m ≡ suc (k + m) = omega arith in
    rw e (omega (arith, ap (sum_by start) (flat_map-weeks_suc F (k + m)), sum_by-append start (flat_map F (weeks (k + m))) (F (suc (k + m))), starts_by F m k))

-- the starts of more weeks are not less
pub starts_rise : (F : ℕ → List Order) (m n : ℕ) → m ≤ n → sum_by start (flat_map F (weeks m)) ≤ sum_by start (flat_map F (weeks n))
starts_rise F m n h =
    let e : n ≡ (n - m) + m = omega arith in
    rw e (starts_by F m (n - m))
