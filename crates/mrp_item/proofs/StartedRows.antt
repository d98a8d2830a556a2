-- The starts in each week, one order at a time.
use Rattle.std.proofs.Common.{◌≡◌, ◌∙◌, ℕ, ◌+◌, ◌<◌, ◌≤◌, Bool, true, false, cond, eqb, List, [], ◌∷◌, length, take, get_or, replicate, refl, sym, ap, arith}
use Rattle.std.specs.Prelude.{sum_by}
use Rattle.std.proofs.lemmas.Bool.{eq-eqb}
use Rattle.std.proofs.lemmas.List.{length-replicate}
use Rattle.std.proofs.lemmas.List.Sums.{sum_by-cons, sum_by_more, sum_by_more_le}
use Rattle.mrp_qty.specs.Quantity.{greatest_quantity}
use Rattle.mrp_phase.specs.Weeks.{row, in_week}
use Rattle.mrp_phase.proofs.KeptSums.{sum_by-kept}
use Rattle.mrp_phase.proofs.WeekRows.{row_is, row_same, in_week_row, in_week_replicate}
use Rattle.mrp_item.specs.declared.order.Order.{Order}
use Rattle.mrp_item.specs.Dues.{with_more}
use Rattle.mrp_item.specs.Orders.{started_in}

-- the start of an order in a week
abbrev pub one_started : ℕ → Order → ℕ
one_started week o = cond (eqb o.release week) o.start 0

started_by : (orders : List Order) (week : ℕ) → started_in orders week ≡ sum_by (one_started week) orders
started_by orders week = sum_by-kept (λ o. eqb o.release week) (λ (o : Order). o.start) orders

pub started_none : (n : ℕ) → replicate n 0 ≡ row n (started_in [])
started_none n = row_is (replicate n 0) (started_in []) n (length-replicate n 0) (λ week a b. in_week_replicate n week)

pub started_more : (orders : List Order) (k : ℕ) (o : Order) (xs : List ℕ) (n : ℕ) → k < length orders → o ≡ get_or orders k o → xs ≡ row n (started_in (take k orders))
    → row n (with_more xs o.release o.start) ≡ row n (started_in (take (k + 1) orders))
started_more orders k o xs n h is so_far =
    row_same (with_more xs o.release o.start) (started_in (take (k + 1) orders)) n
    (λ week a b.
    ap (λ x. in_week x week + one_started week o) so_far
    ∙ ap (λ x. x + one_started week o) (in_week_row (started_in (take k orders)) n week a b ∙ started_by (take k orders) week)
    ∙ ap (λ x. sum_by (one_started week) (take k orders) + one_started week x) is
    ∙ sym (sum_by_more (one_started week) orders k o h) ∙ sym (started_by (take (k + 1) orders) week))

started_le : (week : ℕ) (orders : List Order) → sum_by (one_started week) orders ≤ sum_by (λ o. o.start) orders
started_le week [] = omega arith
started_le week (o ∷ orders) = by (eqb o.release week) refl (started_le week orders)
  where
    start : Order → ℕ
    start x = x.start

    by : (b : Bool) → eqb o.release week ≡ b → sum_by (one_started week) orders ≤ sum_by start orders → sum_by (one_started week) (o ∷ orders) ≤ sum_by start (o ∷ orders)
    by true e more = omega (arith, more, sum_by-cons start o orders, sum_by-cons (one_started week) o orders, ap (λ b. cond b o.start 0) e)
    by false e more = omega (arith, more, sum_by-cons start o orders, sum_by-cons (one_started week) o orders, ap (λ b. cond b o.start 0) e)

pub started_past : (orders : List Order) (k : ℕ) (o : Order) (xs : List ℕ) (n : ℕ) → k < length orders → o ≡ get_or orders k o → xs ≡ row n (started_in (take k orders))
    → 0 < o.release → o.release ≤ n → greatest_quantity < in_week xs o.release + o.start → greatest_quantity < sum_by (λ o. o.start) orders
started_past orders k o xs n h is so_far a b past =
    omega (
      arith,
      past,
      ap (λ x. in_week x o.release) so_far,
      in_week_row (started_in (take k orders)) n o.release a b,
      started_by (take k orders) o.release,
      sum_by_more_le (one_started o.release) orders k o h,
      ap (one_started o.release) is,
      ap (λ b. cond b o.start 0) (eq-eqb o.release o.release refl),
      started_le o.release orders,
    )
