-- The rows of a sheet of promises are those of its item.
use Rattle.std.proofs.Common.{◌≡◌, ◌∙◌, ℕ, ◌-◌, ◌≤◌, ◌<◌, Bool, true, false, List, [], length, sym, ap, arith}
use Rattle.std.specs.Prelude.{IsTrue, if◌then◌else◌, sum_by}
use Rattle.std.specs.List.{flat_map}
use Rattle.mrp_phase.specs.Weeks.{in_week, row}
use Rattle.mrp_phase.proofs.WeekRows.{in_week_row, length-row, row_same}
use Rattle.mrp_master.specs.Supply.{IsSupply, least_from, supply_of, uncommitted}
use Rattle.mrp_master.specs.AtpRow.{AtpRow, IsAtpRow, bucket, buckets_to, due_in, opening}
use Rattle.mrp_master.proofs.ItemRows.{booked_to, firm_from_first, is_row, supplied_to}
use Rattle.mrp_book.proofs.Entries.{from_first}
use Rattle.mrp_book.specs.Booked.{AreBooked}
use Rattle.mrp_book.specs.Bookings.{lines_of}
use Rattle.mrp_item.specs.Inputs.{Inputs, count, horizon, is_master, item_at}
use Rattle.mrp_item.specs.Rows.{booked, firm_rows, open_receipts, scheduled_in}
use Rattle.mrp_report.specs.declared.section.promises.PromiseRow.{PromiseRow}
use Rattle.mrp_report.specs.declared.section.promise_sheet.PromiseSheet.{PromiseSheet}
use Rattle.mrp_report.specs.section.PromiseRows.{available, promise_row, promises_of}
use Rattle.mrp_report.specs.section.PromiseSheet.{IsPromiseSheet, sheet_promise}
use Rattle.mrp_report.specs.section.PromiseText.{promise_text}
use Rattle.mrp_report.specs.ReportText.{promised_text}
use Rattle.mrp_report.proofs.lemmas.section.PromiseSums.{available-left, least-from-same, uncommitted_in}
use Rattle.mrp_report.proofs.lemmas.section.PromiseBookings.{booked-is, is-master}

-- a sheet that has what stands of a master item
pub record IsPromiseSheetOf (sheet : PromiseSheet) (s : Inputs) (i : ℕ) : Type 0 where
  pub weeks_are : sheet.weeks ≡ horizon s
  pub firm_is : sheet.firm.now ≡ row (horizon s) (scheduled_in s i)
  pub row_is : sheet.row.now ≡ promises_of s i
  pub within : i < count s
  pub master : IsTrue (is_master s i)
  pub supplied : IsSupply (supply_of s.tables)
  pub stands : AreBooked (supply_of s.tables) s.standing

pub is-promise-sheet : (sheet : PromiseSheet) (s : Inputs) (i : ℕ) → IsPromiseSheetOf sheet s i → IsPromiseSheet sheet
is-promise-sheet sheet s i same = record {
  few = omega (arith, same.weeks_are, same.supplied.last);
  firm = ap (length {A = ℕ}) same.firm_is ∙ length-row (scheduled_in s i) (horizon s) ∙ sym same.weeks_are;
  supply = ap (λ (r : AtpRow). length r.supply) same.row_is ∙ length-row (opening (supply_of s.tables) i) (horizon s) ∙ sym same.weeks_are;
  booked = ap (λ (r : AtpRow). length r.booked) same.row_is ∙ length-row (λ week. due_in i week (lines_of s.standing)) (horizon s) ∙ sym same.weeks_are;
}

-- what is scheduled for a master item are its firm rows
firm-is : (s : Inputs) (i week : ℕ) → IsTrue (is_master s i) → scheduled_in s i week ≡ sum_by (λ r. r.quantity) (firm_rows s i week)
firm-is s i week = by (is_master s i)
  where
    by : (b : Bool) → IsTrue b → (if b then sum_by (λ r. r.quantity) (firm_rows s i week) else sum_by (λ r. r.quantity) (open_receipts s i week)) ≡ sum_by (λ r. r.quantity) (firm_rows s i week)
    by true h = λ j. sum_by (λ r. r.quantity) (firm_rows s i week)
    by false h = absurd (cc)

-- what is left in the row's buckets up to a week is what is available of the item
pub available-of : (s : Inputs) (i week : ℕ) → i < count s → IsTrue (is_master s i) → IsSupply (supply_of s.tables) → AreBooked (supply_of s.tables) s.standing → 1 ≤ week → week ≤ horizon s
    → buckets_to (promises_of s i) week ≡ available s i week
available-of s i week within master supplied stands first last =
    let size : length (promises_of s i).supply ≡ horizon s = length-row (opening (supply_of s.tables) i) (horizon s) in
    let kept : IsAtpRow (promises_of s i) =
    is_row (supply_of s.tables) supplied i (is-master s i within master) (lines_of s.standing) (from_first (supply_of s.tables) s.standing stands) stands.covered in
    available-left (promises_of s i) kept week (first, omega (arith, last, size))
    ∙ ap (λ n. least_from (uncommitted_in (promises_of s i)) week (n - week)) size
    ∙ least-from-same (uncommitted_in (promises_of s i)) (uncommitted (supply_of s.tables) (lines_of s.standing) i) (horizon s - week) week
    (λ t a b. omega (
      arith,
      first,
      last,
      a,
      b,
      supplied_to (supply_of s.tables) i (lines_of s.standing) t (firm_from_first (supply_of s.tables) supplied i) (omega (arith, first, a)) (omega (arith, last, b)),
      booked_to (supply_of s.tables) i (lines_of s.standing) t (from_first (supply_of s.tables) s.standing stands) (omega (arith, last, b)),
    ))

sheet-week : (sheet : PromiseSheet) (s : Inputs) (i : ℕ) → IsPromiseSheetOf sheet s i → (t : ℕ) → 0 < t → t ≤ horizon s → sheet_promise sheet t ≡ promise_row s i t
sheet-week sheet s i same t a b =
    let firm : in_week sheet.firm.now t ≡ sum_by (λ r. r.quantity) (firm_rows s i t) =
    ap (λ (xs : List ℕ). in_week xs t) same.firm_is ∙ in_week_row (scheduled_in s i) (horizon s) t a b ∙ firm-is s i t same.master in
    let booking : in_week sheet.row.now.booked t ≡ booked s i t =
    ap (λ (r : AtpRow). in_week r.booked t) same.row_is ∙ in_week_row (λ week. due_in i week (lines_of s.standing)) (horizon s) t a b ∙ booked-is s i t in
    let promise : buckets_to sheet.row.now t ≡ available s i t =
    ap (λ (r : AtpRow). buckets_to r t) same.row_is ∙ available-of s i t same.within same.master same.supplied same.stands (omega (arith, a)) b in
    λ j. record {
      week = t;
      firm = firm j;
      booked = booking j;
      bucket = bucket (same.row_is j) t;
      available = promise j;
    }

-- the text of a sheet is its item's
pub promises-text : (sheet : PromiseSheet) (s : Inputs) (i : ℕ) (name : List ℕ) → IsPromiseSheetOf sheet s i → name ≡ (item_at s i).name
    → flat_map (promise_text name) (row sheet.weeks (sheet_promise sheet)) ≡ promised_text s i
promises-text sheet s i name same e =
    ap (λ (n : List ℕ). flat_map (promise_text n) (row sheet.weeks (sheet_promise sheet))) e
    ∙ ap (λ (n : ℕ). flat_map (promise_text (item_at s i).name) (row n (sheet_promise sheet))) same.weeks_are
    ∙ ap (λ (rows : List PromiseRow). flat_map (promise_text (item_at s i).name) rows) (row_same (sheet_promise sheet) (promise_row s i) (horizon s) (sheet-week sheet s i same))
    ∙ of-master (is_master s i) same.master
  where
    text : List ℕ
    text = flat_map (promise_text (item_at s i).name) (row (horizon s) (promise_row s i))

    of-master : (b : Bool) → IsTrue b → text ≡ (if b then text else [])
    of-master true h = λ j. text
    of-master false h = absurd (cc)

-- a part has no text
pub no-promises : (s : Inputs) (i : ℕ) → is_master s i ≡ false → [] ≡ promised_text s i
no-promises s i part = λ j. if sym part j then flat_map (promise_text (item_at s i).name) (row (horizon s) (promise_row s i)) else []
