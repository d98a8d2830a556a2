-- An item's row of promising, booking by booking.
use Rattle.std.proofs.Common.{◌≡◌, ◌∙◌, ℕ, zero, suc, ◌+◌, ◌≤◌, ◌<◌, ◌&&◌, Bool, true, false, cond, eqb, List, [], ◌∷◌, length, map, take, get_or, refl, sym, ap, subst, arith}
use Rattle.std.specs.Prelude.{All, IsTrue, filter, sum_by}
use Rattle.std.proofs.lemmas.List.{get_or-map, get_or_default, take_all}
use Rattle.std.proofs.lemmas.List.Elements.{All-filter, All-get_or, All-map, All-same, All-weaker}
use Rattle.std.proofs.lemmas.List.Sums.{sum_by-cons}
use Rattle.mrp_phase.specs.Weeks.{in_week, row, sum_to, with_week}
use Rattle.mrp_phase.proofs.WeekRows.{in_week_row, length-row, row_same, sum_to_suc}
use Rattle.mrp_tables.specs.Items as items
use Rattle.mrp_tables.specs.declared.item.Item.{Item}
use Rattle.mrp_master.specs.declared.line.Line.{Line}
use Rattle.mrp_master.specs.Lines.{IsLine}
use Rattle.mrp_master.specs.Supply.{IsMaster, IsSupply, IsWeek, Supply, supply, supply_of}
use Rattle.mrp_master.specs.AtpRow.{AtpRow, IsCoveredRow, IsWeekOf, atp_row, due_in, opening, with_booking}
use Rattle.mrp_master.proofs.ItemRows.{booked_to, firm_from_first, supplied_to}
use Rattle.mrp_book.specs.declared.booking.Booking.{Booking}
use Rattle.mrp_book.specs.Booked.{AreBooked}
use Rattle.mrp_book.specs.Bookings.{lines_of}
use Rattle.mrp_book.proofs.Entries.{from_first}
use Rattle.mrp_item.specs.declared.due.Due.{Due}
use Rattle.mrp_item.specs.Inputs.{Inputs, count, is_master, item_at}
use Rattle.mrp_item.specs.Rows.{booked}
use Rattle.mrp_item.specs.Dues.{booking_due, booking_dues, due_sum}
use Rattle.mrp_item.proofs.DueLemmas.{dated_more, due_sum_more, due_sum_within, with_more_row}
use Rattle.mrp_item.proofs.DueRows.{due_sum-bookings}
use Rattle.mrp_report.specs.section.PromiseRows.{promises_of}

-- What is booked, by lines and by dues.

lines-due : (item week : ℕ) (bookings : List Booking)
    → due_in item week (lines_of bookings) ≡ sum_by (λ b. b.line.quantity) (filter (λ b. (eqb b.line.item item) && (eqb b.line.week week)) bookings)
lines-due item week [] = refl
lines-due item week (b ∷ bookings) = by ((eqb b.line.item item) && (eqb b.line.week week)) refl (lines-due item week bookings)
  where
    due : Line → ℕ
    due l = cond ((eqb l.item item) && (eqb l.week week)) l.quantity 0

    quantity : Booking → ℕ
    quantity x = x.line.quantity

    test : Booking → Bool
    test x = (eqb x.line.item item) && (eqb x.line.week week)

    by : (is : Bool) → ((eqb b.line.item item) && (eqb b.line.week week)) ≡ is → sum_by due (lines_of bookings) ≡ sum_by quantity (filter test bookings)
        → sum_by due (b.line ∷ lines_of bookings) ≡ sum_by quantity (cond is (b ∷ filter test bookings) (filter test bookings))
    by true e more = omega (arith, more, sum_by-cons due b.line (lines_of bookings), sum_by-cons quantity b (filter test bookings), ap (λ x. cond x b.line.quantity 0) e)
    by false e more = omega (arith, more, sum_by-cons due b.line (lines_of bookings), ap (λ x. cond x b.line.quantity 0) e)

pub booked-is : (s : Inputs) (i week : ℕ) → due_in i week (lines_of s.standing) ≡ booked s i week
booked-is s i week = lines-due i week s.standing

dues-are : (s : Inputs) (i week : ℕ) → due_sum (booking_dues s.standing i) week ≡ due_in i week (lines_of s.standing)
dues-are s i week = due_sum-bookings s i week ∙ sym (booked-is s i week)

-- The row, due by due.

abbrev pub row_with : Supply → ℕ → List Due → AtpRow
row_with s item dues = record { supply = row s.weeks (opening s item); booked = row s.weeks (due_sum dues) }

pub none-taken : (s : Supply) (item : ℕ) (r : AtpRow) → r ≡ atp_row s item [] → r ≡ row_with s item []
none-taken s item r is =
    is ∙ (let same : row s.weeks (λ week. due_in item week []) ≡ row s.weeks (due_sum []) = row_same (λ week. due_in item week []) (due_sum []) s.weeks (λ t a b. refl) in
    λ j. record { supply = row s.weeks (opening s item); booked = same j })

pub one-taken : (s : Supply) (item : ℕ) (dues : List Due) (k : ℕ) (d : Due) (r next : AtpRow) → k < length dues → d ≡ get_or dues k d → IsWeek s d.week
    → r ≡ row_with s item (take k dues) → next ≡ with_booking r d.week d.quantity → next ≡ row_with s item (take (k + 1) dues)
one-taken s item dues k d r next within is inside so_far takes =
    let before : List ℕ = row s.weeks (due_sum (take k dues)) in
    let more : with_week before d.week (in_week before d.week + d.quantity) ≡ row s.weeks (due_sum (take (k + 1) dues)) =
    with_more_row before d.week d.quantity s.weeks (length-row (due_sum (take k dues)) s.weeks) (omega (arith, inside.0)) inside.1 ∙ dated_more dues k d before s.weeks within is refl in
    takes ∙ ap (λ (x : AtpRow). with_booking x d.week d.quantity) so_far ∙ (λ j. record { supply = row s.weeks (opening s item); booked = more j })

-- Cover.

sums-rise : (f g : ℕ → ℕ) (n t : ℕ) → ((week : ℕ) → f week ≤ g week) → t ≤ n → sum_to (row n f) t ≤ sum_to (row n g) t
sums-rise f g n zero less within = omega arith
sums-rise f g n (suc t) less within =
    omega (arith, sum_to_suc (row n f) t, sum_to_suc (row n g) t, in_week_row f n (suc t) (omega arith) within, in_week_row g n (suc t) (omega arith) within, less (suc t), sums-rise f g n t less (omega (arith, within)))

-- what stands, and each prefix of an item's part of it, is covered
pub fronts-covered : (s : Supply) (bookings : List Booking) (item k : ℕ) (dues : List Due) → IsSupply s → AreBooked s bookings → IsMaster s item
    → ((week : ℕ) → due_sum dues week ≡ due_in item week (lines_of bookings)) → k < length dues → IsCoveredRow (row_with s item (take (k + 1) dues))
fronts-covered s bookings item k dues is are master same within t inside =
    let last : t ≤ s.weeks = omega (arith, inside.1, length-row (opening s item) s.weeks) in
    let few : (week : ℕ) → due_sum (take (k + 1) dues) week ≤ due_in item week (lines_of bookings) =
    λ week. omega (arith, due_sum_more dues k (record { number = 0; week = 0; quantity = 0 }) week within, due_sum_within dues k (record { number = 0; week = 0; quantity = 0 }) week within, same week) in
    omega (
      arith,
      sums-rise (due_sum (take (k + 1) dues)) (λ week. due_in item week (lines_of bookings)) s.weeks t few last,
      booked_to s item (lines_of bookings) t (from_first s bookings are) last,
      supplied_to s item (lines_of bookings) t (firm_from_first s is item) inside.0 last,
      are.covered item master t (inside.0, last),
    )

-- each due of an item is in a week of the horizon
pub due-inside : (s : Supply) (bookings : List Booking) (item k : ℕ) (d : Due) (dues : List Due) → AreBooked s bookings → dues ≡ booking_dues bookings item → k < length dues → d ≡ get_or dues k d → IsWeek s d.week
due-inside s bookings item k d dues are same within is =
    let all : All (λ (x : Due). IsWeek s x.week) (booking_dues bookings item) =
    All-map (λ (x : Due). IsWeek s x.week) booking_due (filter (λ (b : Booking). eqb b.line.item item) bookings)
    (All-filter (λ (b : Booking). eqb b.line.item item) (λ (b : Booking). IsWeek s b.line.week) bookings
    (All-weaker (λ (b : Booking). IsLine s b.line) (λ (b : Booking). IsWeek s b.line.week) (λ b own. own.week) bookings are.lines)) in
    subst (λ (x : Due). IsWeek s x.week) (sym is) (All-get_or (λ (x : Due). IsWeek s x.week) dues k d within (All-same (λ (x : Due). IsWeek s x.week) dues (booking_dues bookings item) same all))

-- the dues of an item are what its bookings have due
pub dues-same : (s : Inputs) (i : ℕ) (dues : List Due) → dues ≡ booking_dues s.standing i → (week : ℕ) → due_sum dues week ≡ due_in i week (lines_of s.standing)
dues-same s i dues same week = ap (λ (ds : List Due). due_sum ds week) same ∙ dues-are s i week

-- what stands of an item may be taken, due by due
pub may-take : (s : Inputs) (supply : Supply) (item : ℕ) (dues : List Due) (k : ℕ) (d : Due) (r : AtpRow) → IsSupply supply → AreBooked supply s.standing → IsMaster supply item → dues ≡ booking_dues s.standing item → k < length dues
    → d ≡ get_or dues k d → r ≡ row_with supply item (take k dues) → IsWeekOf r d.week × IsCoveredRow (with_booking r d.week d.quantity)
may-take s supply item dues k d r is are master same within read so_far =
    let inside : IsWeek supply d.week = due-inside supply s.standing item k d dues are same within read in
    let size : length r.supply ≡ supply.weeks = ap (λ (x : AtpRow). length x.supply) so_far ∙ length-row (opening supply item) supply.weeks in
    let next : with_booking r d.week d.quantity ≡ row_with supply item (take (k + 1) dues) = one-taken supply item dues k d r (with_booking r d.week d.quantity) within read inside so_far refl in (
      (inside.0, omega (arith, inside.1, size)),
      subst IsCoveredRow (sym next) (fronts-covered supply s.standing item k dues is are master (dues-same s item dues same) within),
    )

-- once all are taken, the row is the item's
pub all-taken : (s : Inputs) (supply : Supply) (item : ℕ) (dues : List Due) (k : ℕ) (r : AtpRow) → supply ≡ supply_of s.tables → dues ≡ booking_dues s.standing item → length dues ≤ k → r ≡ row_with supply item (take k dues) → r ≡ promises_of s item
all-taken s supply item dues k r of same all so_far =
    let whole : row supply.weeks (due_sum (take k dues)) ≡ row supply.weeks (λ week. due_in item week (lines_of s.standing)) =
    ap (λ (ds : List Due). row supply.weeks (due_sum ds)) (take_all k dues all)
    ∙ row_same (due_sum dues) (λ week. due_in item week (lines_of s.standing)) supply.weeks (λ t a b. dues-same s item dues same t) in
    so_far ∙ (λ j. record { supply = row supply.weeks (opening supply item); booked = whole j }) ∙ ap (λ (x : Supply). atp_row x item (lines_of s.standing)) of

-- a master item of the shop is one that is promised of
pub is-master : (s : Inputs) (i : ℕ) → i < count s → IsTrue (is_master s i) → IsMaster (supply_of s.tables) i
is-master s i within master =
    let same : get_or (map (λ (item : Item). items.is_master item.class) s.tables.items) i false ≡ is_master s i = get_or-map (λ (item : Item). items.is_master item.class) s.tables.items i (item_at s i) false within
    ∙ ap (λ (item : Item). items.is_master item.class) (get_or_default s.tables.items i (item_at s i) _ within) in
    subst IsTrue (sym same) master
