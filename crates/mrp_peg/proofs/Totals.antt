-- The requirements of an item add up to its gross requirements.
use Rattle.std.proofs.Common.{◌≡◌, ◌∙◌, ℕ, ◌+◌, ◌-◌, ◌*◌, ◌<◌, ◌≤◌, Bool, true, false, cond, List, [], ◌∷◌, ◌++◌, length, get_or, refl, sym, ap, subst, arith}
use Rattle.std.specs.List.{enumerate_from}
use Rattle.std.specs.Prelude.{◌==◌, All, filter, sum, sum_by, nat_lt}
use Rattle.std.proofs.lemmas.Bool.{ltb-false}
use Rattle.std.proofs.lemmas.List.Sums.{sum_by-cons, sum_by-append, get_or-le-sum_by}
use Rattle.mrp_qty.specs.Quantity.{greatest_quantity}
use Rattle.mrp_bill.specs.Bill.{line_at, lines_of}
use Rattle.mrp_book.specs.declared.booking.Booking.{Booking}
use Rattle.mrp_tables.specs.declared.rows.MasterRow.{MasterRow}
use Rattle.mrp_phase.specs.Weeks.{row, weeks}
use Rattle.mrp_item.specs.declared.order.Order.{Order}
use Rattle.mrp_item.specs.Inputs.{Inputs, horizon, is_master}
use Rattle.mrp_item.specs.Plan.{line_demand, gross_in, outcome_of, part_gross, plan_in}
use Rattle.mrp_item.specs.Rows.{booked, bookings_due, independent_demand, forecast, lines_to, service, service_rows}
use Rattle.mrp_item.proofs.Parents.{lines-at}
use Rattle.mrp_peg.specs.declared.peg.NeedKind.TheVariants.{Booking as for_booking, Forecast, Parent, Service}
use Rattle.mrp_peg.specs.declared.matching.Requirement.{Requirement}
use Rattle.mrp_peg.specs.Matching.{amount_required}
use Rattle.mrp_peg.specs.Pegging.{booking_needs, forecast_needs, line_needs, needed, needs_in, orders_in, parent_needs, part_needs, requirements, service_needs}
use Rattle.mrp_peg.specs.Rows.{all_requirements, independent_requirements, line_to, line_requirements, order_requirement, parent_requirements, part_requirements, place_to, service_requirements}
use Rattle.mrp_peg.specs.Units.{Amount, total}
use Rattle.mrp_peg.specs.Weekly.{AreWithin, by_weeks}
use Rattle.mrp_item.specs.Own.{own_gross}
use Rattle.mrp_peg.specs.Own.{IsOwn}
use Rattle.mrp_peg.proofs.Listed.{requirements_are}
use Rattle.mrp_peg.proofs.Lists.{sum_by-flat_map, sum_by_weeks}
use Rattle.mrp_peg.proofs.Own.{gross-within}
use Rattle.mrp_peg.proofs.Sums.{sum_by-agree, sum_by-map}

pub numbered_kept : (g : Order → ℕ) (p : Order → Bool) (n : ℕ) (orders : List Order) → sum_by (λ (x : ℕ × Order). g x.1) (filter (λ x. p x.1) (enumerate_from n orders)) ≡ sum_by g (filter p orders)
numbered_kept g p n [] = refl
numbered_kept g p n (o ∷ orders) = by (p o) (numbered_kept g p (n + 1) orders)
  where
    rest : List (ℕ × Order)
    rest = filter (λ x. p x.1) (enumerate_from (n + 1) orders)

    by : (b : Bool) → sum_by (λ (x : ℕ × Order). g x.1) (filter (λ x. p x.1) (enumerate_from (n + 1) orders)) ≡ sum_by g (filter p orders)
        → sum_by (λ (x : ℕ × Order). g x.1) (cond b ((n, o) ∷ filter (λ x. p x.1) (enumerate_from (n + 1) orders)) (filter (λ x. p x.1) (enumerate_from (n + 1) orders)))
        ≡ sum_by g (cond b (o ∷ filter p orders) (filter p orders))
    by true e = sum_by-cons (λ (x : ℕ × Order). g x.1) ((n, o)) rest ∙ ap (λ k. g o + k) e ∙ sym (sum_by-cons g o (filter p orders))
    by false e = e

numbered_sum : (g : Order → ℕ) (n : ℕ) (orders : List Order) → sum_by (λ (x : ℕ × Order). g x.1) (enumerate_from n orders) ≡ sum_by g orders
numbered_sum g n [] = refl
numbered_sum g n (o ∷ orders) =
    sum_by-cons (λ (x : ℕ × Order). g x.1) ((n, o)) (enumerate_from (n + 1) orders) ∙ ap (λ k. g o + k) (numbered_sum g (n + 1) orders) ∙ sym (sum_by-cons g o orders)

abbrev units : {A : Type 0} → Amount A → ℕ
units a = a.quantity

line_total : (s : Inputs) (i w place : ℕ) → total (line_needs s i w place) ≡ line_demand (outcome_of s) w (line_at s.tables.bills place)
line_total s i w place =
    let line = line_at s.tables.bills place in
    sum_by-map units (λ (n : ℕ × Order). needed i w (Parent (place + 1) n.0) (n.1.start * line.per)) (filter (λ n. n.1.release == w) (orders_in s line.parent))
    ∙ numbered_kept (λ o. o.start * line.per) (λ o. o.release == w) 1 (plan_in (outcome_of s line.parent)).orders

parents_total : (s : Inputs) (i w : ℕ) → total (parent_needs s i w) ≡ sum_by (line_demand (outcome_of s) w) (lines_to s i)
parents_total s i w =
    let bills = s.tables.bills in
    sum_by-flat_map units (line_needs s i w) (lines_of bills i)
    ∙ sum_by-agree (λ place. total (line_needs s i w place)) (λ place. line_demand (outcome_of s) w (line_at bills place)) (line_total s i w) (lines_of bills i)
    ∙ sym (sum_by-map (line_demand (outcome_of s) w) (line_at bills) (lines_of bills i))
    ∙ ap (sum_by (line_demand (outcome_of s) w)) (lines-at bills i)

services_total : (s : Inputs) (i w : ℕ) → total (service_needs s i w) ≡ service s i w
services_total s i w = sum_by-map units (λ (r : MasterRow). needed i w (Service r.number) r.quantity) (service_rows s i w)

parts_total : (s : Inputs) (i w : ℕ) → total (part_needs s i w) ≡ part_gross s i (outcome_of s) w
parts_total s i w = sum_by-append units (service_needs s i w) (parent_needs s i w) ∙ omega (arith, services_total s i w, parents_total s i w)

forecast_total : (s : Inputs) (i w : ℕ) → total (forecast_needs s i w) ≡ forecast s i w - booked s i w
forecast_total s i w = by (nat_lt (booked s i w) (forecast s i w)) refl
  where
    by : (b : Bool) → nat_lt (booked s i w) (forecast s i w) ≡ b → total (cond b (needed i w Forecast (forecast s i w - booked s i w) ∷ []) []) ≡ forecast s i w - booked s i w
    by true e = omega (arith, sum_by-cons units (needed i w Forecast (forecast s i w - booked s i w)) [])
    by false e = omega (arith, ltb-false (booked s i w) (forecast s i w) e)

week_total : (s : Inputs) (i w : ℕ) → total (needs_in s i w) ≡ gross_in s i (outcome_of s) w
week_total s i w = by (is_master s i)
  where
    by : (b : Bool) → total (cond b (booking_needs s i w ++ forecast_needs s i w) (part_needs s i w)) ≡ cond b (independent_demand s i w) (part_gross s i (outcome_of s) w)
    by true =
        let bookings : total (booking_needs s i w) ≡ booked s i w = sum_by-map units (λ (b : Booking). needed i w (for_booking b.number) b.line.quantity) (bookings_due s i w) in
        sum_by-append units (booking_needs s i w) (forecast_needs s i w) ∙ omega (arith, bookings, forecast_total s i w)
    by false = parts_total s i w

-- requirements are gross requirements
pub requirements_total : (s : Inputs) (i : ℕ) → total (requirements s i) ≡ sum (own_gross s i)
unfolding requirements row
requirements_total s i =
    sum_by-flat_map units (needs_in s i) (weeks (horizon s))
    ∙ sum_by-agree (λ w. total (needs_in s i w)) (gross_in s i (outcome_of s)) (week_total s i) (weeks (horizon s))
    ∙ sym (sum_by-map (λ n. n) (gross_in s i (outcome_of s)) (weeks (horizon s)))

abbrev pieces : Requirement → ℕ
pieces w = w.quantity

required_total : (s : Inputs) (i : ℕ) → IsOwn s i → AreWithin (λ (w : Requirement). w.need.week) 1 (horizon s) (all_requirements s i) → sum_by pieces (all_requirements s i) ≡ sum (own_gross s i)
required_total s i is within =
    sym (sum_by_weeks pieces (λ (w : Requirement). w.need.week) 1 (horizon s) (all_requirements s i) within)
    ∙ sym (sum_by-map units amount_required (by_weeks (λ (w : Requirement). w.need.week) (weeks (horizon s)) (all_requirements s i)))
    ∙ ap total (requirements_are s i is) ∙ requirements_total s i

-- what an order of a parent requires is a quantity
pub required_within : (s : Inputs) (i : ℕ) → IsOwn s i → is_master s i ≡ false → AreWithin (λ (w : Requirement). w.need.week) 1 (horizon s) (all_requirements s i)
    → (k : ℕ) → k < length (lines_of s.tables.bills i) → (j : ℕ) (d : Order) → j < length (plan_in (outcome_of s (line_to s i k).parent)).orders
    → (get_or (plan_in (outcome_of s (line_to s i k).parent)).orders j d).start * (line_to s i k).per ≤ greatest_quantity
required_within s i is part within k h j d g =
    let places = lines_of s.tables.bills i in
    let place = place_to s i k in
    let line = line_to s i k in
    let orders = (plan_in (outcome_of s line.parent)).orders in
    let one : sum_by (λ (o : Order). o.start * line.per) orders ≡ sum_by pieces (line_requirements s i place) =
    sym (sum_by-map pieces (order_requirement i (place + 1) line.per) (orders_in s line.parent) ∙ numbered_sum (λ (o : Order). o.start * line.per) 1 orders) in
    let parents : sum_by (λ p. sum_by pieces (line_requirements s i p)) places ≡ sum_by pieces (parent_requirements s i) = sym (sum_by-flat_map pieces (line_requirements s i) places) in
    let all : sum_by pieces (all_requirements s i) ≡ sum_by pieces (service_requirements s i) + sum_by pieces (parent_requirements s i) =
    ap (λ b. sum_by pieces (cond b (independent_requirements s i) (part_requirements s i))) part ∙ sum_by-append pieces (service_requirements s i) (parent_requirements s i) in
    omega (
      arith,
      get_or-le-sum_by (λ (o : Order). o.start * line.per) orders j d g,
      one,
      get_or-le-sum_by (λ p. sum_by pieces (line_requirements s i p)) places k 0 h,
      parents,
      all,
      required_total s i is within,
      gross-within s i is,
    )

-- the same of the orders that are found by a line to the item
pub used_within : (s : Inputs) (i : ℕ) → IsOwn s i → is_master s i ≡ false → AreWithin (λ (w : Requirement). w.need.week) 1 (horizon s) (all_requirements s i)
    → (k per : ℕ) (orders : List Order) → k < length (lines_of s.tables.bills i) → per ≡ (line_to s i k).per → orders ≡ (plan_in (outcome_of s (line_to s i k).parent)).orders
    → All (λ (o : Order). o.start * per ≤ greatest_quantity) orders
used_within s i is part within k per orders h is_per are_orders =
    let Q : ℕ → List Order → Type 0 = λ n os. All (λ (o : Order). o.start * n ≤ greatest_quantity) os in
    subst (λ n. Q n orders) (sym is_per) (subst (Q (line_to s i k).per) (sym are_orders) (required_within s i is part within k h))
