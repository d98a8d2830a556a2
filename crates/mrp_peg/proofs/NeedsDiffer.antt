-- The needs of an item differ.
use Rattle.std.proofs.Common.{◌≡◌, ◌≢◌, ℕ, ◌+◌, ◌<◌, Bool, true, false, cond, List, [], ◌∷◌, ◌++◌, length, get_or, map, refl, ap, arith}
use Rattle.std.specs.Prelude.{◌==◌, ◌&&◌, ◌-◌, ◌*◌, nat_lt, All, AllPairs, filter, flat_map}
use Rattle.std.specs.List.{range_with_len}
use Rattle.std.proofs.lemmas.List.Elements.{All-nil, All-cons, All-append, All-map}
use Rattle.std.proofs.lemmas.List.Kept.{AllPairs-cons, AllPairs-filter}
use Rattle.mrp_bill.specs.Bill.{line_at, lines_of}
use Rattle.mrp_book.specs.declared.booking.Booking.{Booking}
use Rattle.mrp_tables.specs.Facts.{RowsRise}
use Rattle.mrp_tables.specs.Master.{is_service}
use Rattle.mrp_tables.specs.declared.rows.MasterRow.{MasterRow}
use Rattle.mrp_phase.specs.Weeks.{weeks}
use Rattle.mrp_item.specs.declared.order.Order.{Order}
use Rattle.mrp_item.specs.Inputs.{Inputs, horizon, is_master}
use Rattle.mrp_item.specs.Rows.{booked, bookings_due, forecast, service_rows}
use Rattle.mrp_peg.specs.declared.peg.Need.{Need}
use Rattle.mrp_peg.specs.declared.peg.NeedKind.{NeedKind}
use Rattle.mrp_peg.specs.declared.peg.NeedKind.TheVariants.{Booking as for_booking, Forecast, Parent, Service}
use Rattle.mrp_peg.specs.Pegging.{booking_needs, forecast_needs, line_needs, needed, needs_in, orders_in, parent_needs, part_needs, requirements, service_needs}
use Rattle.mrp_peg.specs.Units.{Amount}
use Rattle.mrp_peg.proofs.Lists.{All-flat}
use Rattle.mrp_peg.proofs.Pairs.{append-pairs, flat-pairs, map-pairs, none-pairs, number-pairs, range-pairs}

-- two requirements have different needs
abbrev Differ : Amount Need → Amount Need → Type 0
Differ a b = a.of ≢ b.of

abbrev kind_of : Amount Need → NeedKind
kind_of a = a.of.kind

kinds-differ : (a b : Amount Need) → kind_of a ≢ kind_of b → Differ a b
kinds-differ a b apart same = apart (ap (λ n. n.kind) same)

bookings-differ : (m n : ℕ) → m < n → for_booking m ≢ for_booking n
bookings-differ m n low same = let e : m ≡ n = cc in absurd (omega (arith, e, low))

services-differ : (m n : ℕ) → m < n → Service m ≢ Service n
services-differ m n low same = let e : m ≡ n = cc in absurd (omega (arith, e, low))

lines-differ : (k l a b : ℕ) → k < l → Parent (k + 1) a ≢ Parent (l + 1) b
lines-differ k l a b low same = let e : k + 1 ≡ l + 1 = cc in absurd (omega (arith, e, low))

orders-differ : (k a b : ℕ) → a < b → Parent k a ≢ Parent k b
orders-differ k a b low same = let e : a ≡ b = cc in absurd (omega (arith, e, low))

-- the bookings of a week
booking-pairs : (s : Inputs) (i w : ℕ) → AllPairs (λ a b. a.number < b.number) s.standing → AllPairs Differ (booking_needs s i w)
booking-pairs s i w rising =
    map-pairs (λ (a b : Booking). a.number < b.number) Differ (λ (b : Booking). needed i w (for_booking b.number) b.line.quantity)
    (λ a b low. kinds-differ (needed i w (for_booking a.number) a.line.quantity) (needed i w (for_booking b.number) b.line.quantity) (bookings-differ a.number b.number low))
    (bookings_due s i w) (AllPairs-filter (λ (a b : Booking). a.number < b.number) (λ (b : Booking). (b.line.item == i) && (b.line.week == w)) s.standing rising)

-- the bookings of a week and its forecast
master-pairs : (s : Inputs) (i w : ℕ) → AllPairs (λ a b. a.number < b.number) s.standing → AllPairs Differ (booking_needs s i w ++ forecast_needs s i w)
master-pairs s i w rising = by (nat_lt (booked s i w) (forecast s i w))
  where
    left : Amount Need
    left = needed i w Forecast (forecast s i w - booked s i w)

    by : (b : Bool) → AllPairs Differ (booking_needs s i w ++ cond b (left ∷ []) [])
    by true =
        append-pairs Differ (booking_needs s i w) (left ∷ []) (booking-pairs s i w rising) (AllPairs-cons Differ left [] (All-nil (Differ left)) (none-pairs Differ))
        (All-map (λ x. All (Differ x) (left ∷ [])) (λ (b : Booking). needed i w (for_booking b.number) b.line.quantity) (bookings_due s i w)
        (λ k d h. let x = needed i w (for_booking (get_or (bookings_due s i w) k d).number) (get_or (bookings_due s i w) k d).line.quantity in
        All-cons (Differ x) left [] (kinds-differ x left (λ e. cc)) (All-nil (Differ x))))
    by false = append-pairs Differ (booking_needs s i w) [] (booking-pairs s i w rising) (none-pairs Differ) (λ k d h. All-nil (Differ (get_or (booking_needs s i w) k d)))

-- the needs that the orders of a parent make by a line
line-pairs : (s : Inputs) (i w place : ℕ) → AllPairs Differ (line_needs s i w place)
line-pairs s i w place =
    let line = line_at s.tables.bills place in
    let need : ℕ × Order → Amount Need = λ n. needed i w (Parent (place + 1) n.0) (n.1.start * line.per) in
    map-pairs (λ (x y : ℕ × Order). x.0 < y.0) Differ need (λ x y low. kinds-differ (need x) (need y) (orders-differ (place + 1) x.0 y.0 low))
    (filter (λ n. n.1.release == w) (orders_in s line.parent))
    (AllPairs-filter (λ (x y : ℕ × Order). x.0 < y.0) (λ n. n.1.release == w) (orders_in s line.parent) (number-pairs 1 _))

-- the needs that two lines make
lines-apart : (s : Inputs) (i w k l : ℕ) → k < l → All (λ x. All (Differ x) (line_needs s i w l)) (line_needs s i w k)
lines-apart s i w k l low =
    let one = line_at s.tables.bills k in
    let other = line_at s.tables.bills l in
    let need : ℕ × Order → Amount Need = λ n. needed i w (Parent (k + 1) n.0) (n.1.start * one.per) in
    let next : ℕ × Order → Amount Need = λ n. needed i w (Parent (l + 1) n.0) (n.1.start * other.per) in
    let ours = filter (λ n. n.1.release == w) (orders_in s one.parent) in
    let theirs = filter (λ n. n.1.release == w) (orders_in s other.parent) in
    All-map (λ x. All (Differ x) (map next theirs)) need ours
    (λ a d h. All-map (Differ (need (get_or ours a d))) next theirs
    (λ b e g. kinds-differ (need (get_or ours a d)) (next (get_or theirs b e)) (lines-differ k l (get_or ours a d).0 (get_or theirs b e).0 low)))

-- the needs that the orders of all parents make
parent-pairs : (s : Inputs) (i w : ℕ) → AllPairs Differ (parent_needs s i w)
parent-pairs s i w =
    flat-pairs Differ (line_needs s i w) (λ k l. k < l) (lines-apart s i w) (lines_of s.tables.bills i) (line-pairs s i w)
    (AllPairs-filter (λ k l. k < l) (λ place. (line_at s.tables.bills place).component == i) (range_with_len 0 (length s.tables.bills)) (range-pairs 0 (length s.tables.bills)))

-- the need of a service row
abbrev service_need : ℕ → ℕ → MasterRow → Amount Need
service_need i w r = needed i w (Service r.number) r.quantity

-- the service rows of a week
service-pairs : (s : Inputs) (i w : ℕ) → RowsRise s.tables.master → AllPairs Differ (service_needs s i w)
service-pairs s i w rising =
    map-pairs (λ (a b : MasterRow). a.number < b.number) Differ (service_need i w)
    (λ a b low. kinds-differ (service_need i w a) (service_need i w b) (services-differ a.number b.number low))
    (service_rows s i w) (AllPairs-filter (λ (a b : MasterRow). a.number < b.number) (λ (r : MasterRow). (r.item == i) && (r.week == w) && is_service r.kind) s.tables.master rising)

-- no service row makes the need of a parent's order
services-apart : (s : Inputs) (i w : ℕ) → All (λ x. All (Differ x) (parent_needs s i w)) (service_needs s i w)
services-apart s i w =
    All-map (λ x. All (Differ x) (parent_needs s i w)) (service_need i w) (service_rows s i w)
    (λ k d h. let x : Amount Need = service_need i w (get_or (service_rows s i w) k d) in
    All-flat (Differ x) (line_needs s i w) (lines_of s.tables.bills i)
    (λ place. let line = line_at s.tables.bills place in
    let need : ℕ × Order → Amount Need = λ n. needed i w (Parent (place + 1) n.0) (n.1.start * line.per) in
    let orders = filter (λ n. n.1.release == w) (orders_in s line.parent) in
    All-map (Differ x) need orders (λ b e g. kinds-differ x (need (get_or orders b e)) (λ same. cc))))

-- the needs of a week
week-pairs : (s : Inputs) (i w : ℕ) → AllPairs (λ a b. a.number < b.number) s.standing → RowsRise s.tables.master → AllPairs Differ (needs_in s i w)
week-pairs s i w rising numbered = by (is_master s i)
  where
    by : (b : Bool) → AllPairs Differ (cond b (booking_needs s i w ++ forecast_needs s i w) (part_needs s i w))
    by true = master-pairs s i w rising
    by false = append-pairs Differ (service_needs s i w) (parent_needs s i w) (service-pairs s i w numbered) (parent-pairs s i w) (services-apart s i w)

abbrev IsOfWeek : ℕ → Amount Need → Type 0
IsOfWeek w a = a.of.week ≡ w

-- each need of a week is of the week
of-week : (s : Inputs) (i w : ℕ) → All (IsOfWeek w) (needs_in s i w)
of-week s i w = by (is_master s i)
  where
    lines : (places : List ℕ) → All (IsOfWeek w) (flat_map (line_needs s i w) places)
    lines [] = All-nil (IsOfWeek w)
    lines (place ∷ places) =
        All-append (IsOfWeek w) (line_needs s i w place) (flat_map (line_needs s i w) places)
        (All-map (IsOfWeek w) (λ (n : ℕ × Order). needed i w (Parent (place + 1) n.0) (n.1.start * (line_at s.tables.bills place).per)) (filter (λ n. n.1.release == w) (orders_in s (line_at s.tables.bills place).parent)) (λ k d h. refl))
        (lines places)

    left : (b : Bool) → All (IsOfWeek w) (cond b (needed i w Forecast (forecast s i w - booked s i w) ∷ []) [])
    left true = All-cons (IsOfWeek w) (needed i w Forecast (forecast s i w - booked s i w)) [] refl (All-nil (IsOfWeek w))
    left false = All-nil (IsOfWeek w)

    by : (b : Bool) → All (IsOfWeek w) (cond b (booking_needs s i w ++ forecast_needs s i w) (part_needs s i w))
    by true =
        All-append (IsOfWeek w) (booking_needs s i w) (forecast_needs s i w)
        (All-map (IsOfWeek w) (λ (b : Booking). needed i w (for_booking b.number) b.line.quantity) (bookings_due s i w) (λ k d h. refl)) (left (nat_lt (booked s i w) (forecast s i w)))
    by false =
        All-append (IsOfWeek w) (service_needs s i w) (parent_needs s i w)
        (All-map (IsOfWeek w) (service_need i w) (service_rows s i w) (λ k d h. refl)) (lines (lines_of s.tables.bills i))

-- the needs of two weeks
weeks-apart : (s : Inputs) (i v w : ℕ) → v < w → All (λ x. All (Differ x) (needs_in s i w)) (needs_in s i v)
weeks-apart s i v w low = λ a d h b e g.
    let one = of-week s i v a d h in
    let other = of-week s i w b e g in
    λ same. absurd (omega (arith, one, other, low, ap (λ n. n.week) same))

-- all needs of an item
pub needs-differ : (s : Inputs) (i : ℕ) → AllPairs (λ a b. a.number < b.number) s.standing → RowsRise s.tables.master → AllPairs (λ a b. a.of ≢ b.of) (requirements s i)
unfolding requirements
needs-differ s i rising numbered = flat-pairs Differ (needs_in s i) (λ v w. v < w) (weeks-apart s i) (weeks (horizon s)) (λ w. week-pairs s i w rising numbered) (range-pairs 1 (horizon s))
