-- What is due of an item is what is due by its rows.
use Rattle.std.proofs.Common.{◌≡◌, ◌∙◌, ℕ, ◌<◌, ◌≤◌, Bool, true, false, cond, eqb, List, [], ◌∷◌, map, refl, sym, ap, arith}
use Rattle.std.specs.Prelude.{All, filter, sum, sum_by, ◌&&◌, nat_le, Some, None}
use Rattle.std.specs.Int.{IsInRange}
use Rattle.std.proofs.lemmas.List.Elements.{All-filter, All-map, All-weaker}
use Rattle.std.proofs.lemmas.List.Sums.{sum-map}
use Rattle.mrp_qty.specs.Quantity.{greatest_quantity, quantity_of}
use Rattle.mrp_phase.specs.Weeks.{row}
use Rattle.mrp_phase.proofs.WeekRows.{row_same, sum-row_above}
use Rattle.mrp_tables.specs.declared.rows.MasterRow.{MasterRow}
use Rattle.mrp_tables.specs.declared.rows.Receipt.{Receipt}
use Rattle.mrp_tables.specs.Tables.{Tables}
use Rattle.mrp_tables.specs.Facts.{IsMasterRow, IsReceipt}
use Rattle.mrp_book.specs.declared.booking.Booking.{Booking}
use Rattle.mrp_book.specs.Booked.{AreBooked}
use Rattle.mrp_master.specs.Supply.{supply_of}
use Rattle.mrp_item.specs.declared.due.Due.{Due}
use Rattle.mrp_item.specs.Inputs.{Inputs, horizon}
use Rattle.mrp_tables.specs.Master.{is_firm, is_forecast, is_service}
use Rattle.mrp_item.specs.Rows.{firm_rows, forecast_rows, service_rows, open_receipts, bookings_due, forecast, service, booked}
use Rattle.mrp_item.specs.Dues.{due_in, due_sum, dues_of, master_due, receipt_due, booking_due, firm_dues, forecast_dues, receipt_dues, booking_dues, service_dues}

-- the rows of a week, of the rows of an item
pub due_in-dues : {R : Type 0} (keep test : R → Bool) (due : R → Due) (week : ℕ) → ((r : R) → test r ≡ (keep r && eqb (due r).week week))
    → (rows : List R) → due_in week (dues_of keep due rows) ≡ map (λ r. (due r).quantity) (filter test rows)
due_in-dues keep test due week same [] = refl
due_in-dues {R} keep test due week same (r ∷ rows) =
    by (keep r) (eqb (due r).week week) refl (due_in-dues keep test due week same rows)
    ∙ ap (λ b. map quantity (cond b (r ∷ filter test rows) (filter test rows))) (sym (same r))
  where
    quantity : R → ℕ
    quantity x = (due x).quantity

    by : (a b : Bool) → eqb (due r).week week ≡ b → due_in week (map due (filter keep rows)) ≡ map quantity (filter test rows)
        → due_in week (map due (cond a (r ∷ filter keep rows) (filter keep rows))) ≡ map quantity (cond (a && b) (r ∷ filter test rows) (filter test rows))
    by true true f more = rw f (ap (λ xs. (due r).quantity ∷ xs) more)
    by true false f more = rw f more
    by false b f more = more

and_swap : (a b c : Bool) → ((a && b) && c) ≡ ((a && c) && b)
and_swap true true true = refl
and_swap true true false = refl
and_swap true false true = refl
and_swap true false false = refl
and_swap false b c = refl

pub due_in-firm : (s : Inputs) (i week : ℕ) → due_in week (firm_dues s.tables.master i) ≡ map (λ r. r.quantity) (firm_rows s i week)
due_in-firm s i week =
    due_in-dues (λ (r : MasterRow). eqb r.item i && is_firm r.kind) (λ r. (eqb r.item i && eqb r.week week) && is_firm r.kind) master_due week
    (λ r. and_swap (eqb r.item i) (eqb r.week week) (is_firm r.kind)) s.tables.master

pub due_sum-firm : (s : Inputs) (i week : ℕ) → due_sum (firm_dues s.tables.master i) week ≡ sum_by (λ r. r.quantity) (firm_rows s i week)
due_sum-firm s i week = ap sum (due_in-firm s i week) ∙ sum-map (λ (r : MasterRow). r.quantity) (firm_rows s i week)

pub due_sum-forecast : (s : Inputs) (i week : ℕ) → due_sum (forecast_dues s.tables.master i) week ≡ forecast s i week
due_sum-forecast s i week =
    ap sum (due_in-dues (λ (r : MasterRow). eqb r.item i && is_forecast r.kind) (λ r. (eqb r.item i && eqb r.week week) && is_forecast r.kind) master_due week
    (λ r. and_swap (eqb r.item i) (eqb r.week week) (is_forecast r.kind)) s.tables.master)
    ∙ sum-map (λ (r : MasterRow). r.quantity) (forecast_rows s i week)

pub due_sum-service : (s : Inputs) (i week : ℕ) → due_sum (service_dues s.tables.master i) week ≡ service s i week
due_sum-service s i week =
    ap sum (due_in-dues (λ (r : MasterRow). eqb r.item i && is_service r.kind) (λ r. (eqb r.item i && eqb r.week week) && is_service r.kind) master_due week
    (λ r. and_swap (eqb r.item i) (eqb r.week week) (is_service r.kind)) s.tables.master)
    ∙ sum-map (λ (r : MasterRow). r.quantity) (service_rows s i week)

pub due_sum-receipts : (s : Inputs) (i week : ℕ) → due_sum (receipt_dues s.tables.receipts i) week ≡ sum_by (λ r. r.quantity) (open_receipts s i week)
due_sum-receipts s i week =
    ap sum (due_in-dues (λ (r : Receipt). eqb r.item i) (λ r. eqb r.item i && eqb r.week week) receipt_due week (λ r. refl) s.tables.receipts)
    ∙ sum-map (λ (r : Receipt). r.quantity) (open_receipts s i week)

pub due_sum-bookings : (s : Inputs) (i week : ℕ) → due_sum (booking_dues s.standing i) week ≡ booked s i week
due_sum-bookings s i week =
    ap sum (due_in-dues (λ (b : Booking). eqb b.line.item i) (λ b. eqb b.line.item i && eqb b.line.week week) booking_due week (λ b. refl) s.standing)
    ∙ sum-map (λ (b : Booking). b.line.quantity) (bookings_due s i week)

-- the row of what is due is the row of what is due by its rows
pub dated-row : (dues : List Due) (f : ℕ → ℕ) (n : ℕ) (xs : List ℕ) → ((week : ℕ) → due_sum dues week ≡ f week) → xs ≡ row n (due_sum dues) → xs ≡ row n f
dated-row dues f n xs same is = is ∙ row_same (due_sum dues) f n (λ week a b. same week)

-- what is too much in a week is too much in all
abbrev pub IsPast : List Due → ℕ → Type 0
IsPast dues n = (week : ℕ) × (0 < week) × (week ≤ n) × (greatest_quantity < due_sum dues week)

pub dated-past : (dues : List Due) (f : ℕ → ℕ) (n : ℕ) → ((week : ℕ) → due_sum dues week ≤ f week) → IsPast dues n → greatest_quantity < sum (row n f)
dated-past dues f n same (week, a, b, past) = omega (arith, past, same week, sum-row_above f n week a b)

-- a quantity is the number that it is made from
pub quantity-is : (q n : ℕ) → Some q ≡ quantity_of n → q ≡ n
quantity-is q n h = by (nat_le n greatest_quantity) h
  where
    by : (b : Bool) → Some q ≡ cond b (Some n) None → q ≡ n
    by true k = cc
    by false k = absurd (cc)

-- each service row of an item is due in a week of the horizon
pub services-within : (t : Tables) (i : ℕ) → All (IsMasterRow t.calendar.weeks t.items) t.master → All (λ (d : Due). IsInRange 1 t.calendar.weeks d.week) (service_dues t.master i)
services-within t i all =
    All-map (λ (d : Due). IsInRange 1 t.calendar.weeks d.week) master_due (filter (λ (r : MasterRow). eqb r.item i && is_service r.kind) t.master)
    (All-filter (λ (r : MasterRow). eqb r.item i && is_service r.kind) (λ (r : MasterRow). IsInRange 1 t.calendar.weeks r.week) t.master
    (All-weaker (IsMasterRow t.calendar.weeks t.items) (λ (r : MasterRow). IsInRange 1 t.calendar.weeks r.week) (λ r is. is.week) t.master all))

-- each open receipt of an item is due in a week of the horizon
pub receipts-within : (t : Tables) (i : ℕ) → All (IsReceipt t.calendar.weeks t.items) t.receipts → All (λ (d : Due). IsInRange 1 t.calendar.weeks d.week) (receipt_dues t.receipts i)
receipts-within t i all =
    All-map (λ (d : Due). IsInRange 1 t.calendar.weeks d.week) receipt_due (filter (λ (r : Receipt). eqb r.item i) t.receipts)
    (All-filter (λ (r : Receipt). eqb r.item i) (λ (r : Receipt). IsInRange 1 t.calendar.weeks r.week) t.receipts
    (All-weaker (IsReceipt t.calendar.weeks t.items) (λ (r : Receipt). IsInRange 1 t.calendar.weeks r.week) (λ r is. is.week) t.receipts all))

-- each booking of an item is due in a week of the horizon
pub bookings-within : (s : Inputs) (i : ℕ) → AreBooked (supply_of s.tables) s.standing → All (λ (d : Due). IsInRange 1 (horizon s) d.week) (booking_dues s.standing i)
bookings-within s i is =
    All-map (λ (d : Due). IsInRange 1 (horizon s) d.week) booking_due (filter (λ (b : Booking). eqb b.line.item i) s.standing)
    (All-filter (λ (b : Booking). eqb b.line.item i) (λ (b : Booking). IsInRange 1 (horizon s) b.line.week) s.standing (λ k d h. (is.lines k d h).week))
