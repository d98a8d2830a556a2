-- A record's faults stand at the record.
use Rattle.std.proofs.Common.{◌≡◌, ℕ, Bool, true, false, List, [], ◌∷◌, Option, Result, Ok, Err, refl}
use Rattle.std.specs.Prelude.{IfErr, codes, if◌then◌else◌, ◌&&◌, nat_lt, nat_eq, not, length, ◌==◌}
use Rattle.std.specs.List.{list_any}
use Rattle.std.specs.Cmp.Lexicographic.{pointwise}
use Rattle.mrp_qty.specs.Reading.{◌>>=◌}
use Rattle.jiff.specs.Types.{Date}
use Rattle.mrp_cal.specs.Calendar.{ShopCalendar, is_monday, week_of}
use Rattle.mrp_cal.specs.declared.calendar.TheConstants.{MOST_WEEKS}
use Rattle.mrp_rows.specs.declared.fault.Fault.{Fault}
use Rattle.mrp_rows.specs.declared.fault.Table.TheVariants as t
use Rattle.mrp_rows.specs.declared.faults.TheConstants as faults
use Rattle.mrp_rows.specs.Columns.{Layout, width}
use Rattle.mrp_rows.specs.Left.{Cells}
use Rattle.mrp_rows.specs.Cell.{blame, cell_at, date_cell, fault_at, name_of, number_cell, or_code, word_of}
use Rattle.mrp_tables.specs.declared.limits.TheConstants as limits
use Rattle.mrp_tables.specs.declared.item.Item.{Item}
use Rattle.mrp_tables.specs.declared.rows.Centre.{Centre}
use Rattle.mrp_tables.specs.declared.rows.Operation.{Operation}
use Rattle.mrp_tables.specs.declared.rows.StockRow.{StockRow}
use Rattle.mrp_tables.specs.declared.calendar.Entry.{Entry}
use Rattle.mrp_tables.specs.declared.calendar.First.TheVariants as first
use Rattle.mrp_tables.specs.declared.calendar.Entry.TheVariants.{Start, Weeks, Workdays, Holiday}
use Rattle.mrp_tables.specs.Bills.{bill_row}
use Rattle.mrp_tables.specs.declared.version.TheConstants.{MOST_VERSION}
use Rattle.mrp_tables.specs.declared.version.Version.{Version}
use Rattle.mrp_tables.specs.Calendar.{entry_row, holiday_cells, start_cells, weeks_cells, workdays_cell, workdays_cells, calendar_reads, dated_of, dated_row, first_cells, first_entry, start_cell, version_cell}
use Rattle.mrp_tables.specs.Centres.{centre_cells, centre_checked, centre_names, centre_row, known_centre}
use Rattle.mrp_tables.specs.Items.{class_words, greatest_size, is_master, is_master_at, item_at, item_cells, item_checked, item_row, known, least_cell, least_size, names_of, step_cell}
use Rattle.mrp_tables.specs.Laws.{FaultsAtItsRecord, FaultsAtTheirRecords, IsAt}
use Rattle.mrp_tables.specs.Master.{class_fault, has_kind, kind_at, master_row}
use Rattle.mrp_tables.specs.declared.receipts.OpenOrder.{OpenOrder}
use Rattle.mrp_tables.specs.declared.rows.Receipt.{Receipt}
use Rattle.mrp_tables.specs.Reading.{Reads, admitted, by_itself, is_past, reads_of}
use Rattle.mrp_tables.specs.Receipts.{order_cells, order_checked, orders_of, receipt_placed, receipt_row, same_order}
use Rattle.mrp_tables.specs.declared.routings.RoutingLine.{RoutingLine}
use Rattle.mrp_tables.specs.Routings.{operation_row, operations_of, routing_cells, routing_checked, routing_placed, same_operation}
use Rattle.mrp_tables.specs.declared.rows.ScriptCall.{ScriptCall}
use Rattle.mrp_tables.specs.declared.rows.ScriptCall.TheVariants as call
use Rattle.mrp_tables.specs.Script.{ask_cells, book_cells, call_at, cancel_cells, mastered, script_row, spot_of, when_cells}
use Rattle.mrp_tables.specs.Limits.{call_words, lot_words}
use Rattle.mrp_tables.specs.Stock.{items_in_stock, stock_cells, stock_checked, stock_row}
use Rattle.mrp_tables.specs.Versions.{has_steps, kind_words, most_lead}

own : (r : Cells) (code : ℕ) → IsAt r (fault_at r code)
own r code = record { table = refl; row = refl }

-- a step of reading, and what follows
pub step : {X Y : Type 0} (r : Cells) (x : Result X Fault) (next : X → Result Y Fault) → IfErr x (IsAt r) → ((a : X) → IfErr (next a) (IsAt r)) → IfErr (x >>= next) (IsAt r)
step r (Ok a) next at h = h a
step r (Err f) next at h = at

-- a cell, and what follows
cell : {X Y : Type 0} (r : Cells) (x : Result X ℕ) (next : X → Result Y Fault) → ((a : X) → IfErr (next a) (IsAt r)) → IfErr (blame r x >>= next) (IsAt r)
cell r (Ok a) next h = h a
cell r (Err code) next h = own r code

blamed : {X : Type 0} (r : Cells) (x : Result X ℕ) → IfErr (blame r x) (IsAt r)
blamed r (Ok a) = tt
blamed r (Err code) = own r code

-- a last check
last : {Y : Type 0} (r : Cells) (code : ℕ) (b : Bool) (y : Y) → IfErr (if b then Err (fault_at r code) else Ok y) (IsAt r)
last r code true y = own r code
last r code false y = tt

last_unless : {Y : Type 0} (r : Cells) (code : ℕ) (b : Bool) (y : Y) → IfErr (if b then Ok y else Err (fault_at r code)) (IsAt r)
last_unless r code true y = tt
last_unless r code false y = own r code

admits : (limit : Option ℕ) (at : Layout) (r : Cells) (past wide : Bool) → is_past limit r.number ≡ past → (length r.cells == width at) ≡ wide → IfErr (admitted limit at r) (IsAt r)
admits limit at r true wide e w = rw e (own r faults.TOO_MANY)
admits limit at r false true e w = rw (e, w) tt
admits limit at r false false e w = rw (e, w) (own r faults.COLUMNS)

pub admitted_at : (limit : Option ℕ) (at : Layout) (r : Cells) → IfErr (admitted limit at r) (IsAt r)
admitted_at limit at r = admits limit at r (is_past limit r.number) (length r.cells == width at) refl refl

admits_same : (limit : Option ℕ) (at : Layout) (r : Cells) (past wide : Bool) → is_past limit r.number ≡ past → (length r.cells == width at) ≡ wide → (c : Cells) → admitted limit at r ≡ Ok c → r ≡ c
admits_same limit at r true wide e w c given = let refused : admitted limit at r ≡ Err (fault_at r faults.TOO_MANY) = rw e refl in absurd cc
admits_same limit at r false true e w c given = let kept : admitted limit at r ≡ Ok r = rw (e, w) refl in cc
admits_same limit at r false false e w c given = let refused : admitted limit at r ≡ Err (fault_at r faults.COLUMNS) = rw (e, w) refl in absurd cc

-- what is admitted is the record
pub admitted_same : (limit : Option ℕ) (at : Layout) (r c : Cells) → admitted limit at r ≡ Ok c → r ≡ c
admitted_same limit at r c given = admits_same limit at r (is_past limit r.number) (length r.cells == width at) refl refl c given

-- a record that is admitted and then read
reads : {X : Type 0} (read : Reads X) → ((before : List X) (r : Cells) → IfErr (read.row before r) (IsAt r)) → FaultsAtItsRecord read
reads read h layout before r = by (admitted (read.limit before) layout r) refl (admitted_at (read.limit before) layout r)
  where
    by : (a : Result Cells Fault) → admitted (read.limit before) layout r ≡ a → IfErr a (IsAt r) → IfErr (a >>= read.row before) (IsAt r)
    by (Ok c) e at = rw (← admitted_same (read.limit before) layout r c e) (h before r)
    by (Err f) e at = at

date_at : (r : Cells) → IfErr (start_cell r) (IsAt r)
unfolding start_cell
date_at r = cell r (date_cell (cell_at r 1)) _ (λ date. last_unless r faults.RANGE (is_monday date) date)

start_at : (r : Cells) → IfErr (start_cells r) (IsAt r)
start_at r = cell r (word_of (codes "start" ∷ []) (cell_at r 0)) _ (λ key. date_at r)

version_at : (r : Cells) → IfErr (version_cell r) (IsAt r)
version_at r = cell r (number_cell 1 MOST_VERSION (cell_at r 1)) _ (λ number. tt)

-- one of two readings
one_of : {X : Type 0} (r : Cells) (b : Bool) (x y : Result X Fault) → IfErr x (IsAt r) → IfErr y (IsAt r) → IfErr (if b then x else y) (IsAt r)
one_of r true x y h k = h
one_of r false x y h k = k

first_at : (r : Cells) → IfErr (first_cells r) (IsAt r)
unfolding first_cells
first_at r =
    cell r (word_of (codes "version" ∷ codes "start" ∷ []) (cell_at r 0)) _ (λ key.
    one_of r (key == 0) _ _ (step r (version_cell r) (λ version. Ok (first.OfVersion version)) (version_at r) (λ version. tt))
    (step r (start_cell r) (λ date. Ok (first.Start date)) (date_at r) (λ date. tt)))

weeks_at : (r : Cells) → IfErr (weeks_cells r) (IsAt r)
unfolding weeks_cells
weeks_at r = cell r (word_of (codes "weeks" ∷ []) (cell_at r 0)) _ (λ key. blamed r (number_cell 1 MOST_WEEKS (cell_at r 1)))

workdays_at : (r : Cells) → IfErr (workdays_cells r) (IsAt r)
unfolding workdays_cells
workdays_at r = cell r (word_of (codes "workdays" ∷ []) (cell_at r 0)) _ (λ key. blamed r (workdays_cell (cell_at r 1)))

holiday_at : (r : Cells) → IfErr (holiday_cells r) (IsAt r)
unfolding holiday_cells
holiday_at r = cell r (word_of (codes "holiday" ∷ []) (cell_at r 0)) _ (λ key.
    blamed r (date_cell (cell_at r 1)))

dated_at : (before : List Entry) (r : Cells) → IfErr (dated_row before r) (IsAt r)
dated_at [] r = step r (start_cells r) (λ date. Ok (Start date)) (start_at r) (λ date. tt)
dated_at (start ∷ []) r = step r (weeks_cells r) (λ weeks. Ok (Weeks weeks)) (weeks_at r) (λ weeks. tt)
dated_at (start ∷ weeks ∷ []) r = step r (workdays_cells r) (λ workdays. Ok (Workdays workdays)) (workdays_at r) (λ workdays. tt)
dated_at (start ∷ weeks ∷ workdays ∷ holidays) r = step r (holiday_cells r) (λ date. Ok (Holiday date)) (holiday_at r) (λ date. tt)

entry_at : (before : List Entry) (r : Cells) → IfErr (entry_row before r) (IsAt r)
entry_at [] r = step r (first_cells r) (λ first. Ok (first_entry first)) (first_at r) (λ first. tt)
entry_at (first ∷ entries) r = dated_at (dated_of (first ∷ entries)) r

bill_at : (items : List Item) (r : Cells) → IfErr (bill_row items r) (IsAt r)
unfolding bill_row
bill_at items r =
    cell r (name_of (cell_at r 0)) _ (λ parent_name.
    cell r (name_of (cell_at r 1)) _ (λ component_name.
    cell r (number_cell 1 limits.MOST_PER (cell_at r 2)) _ (λ per.
    cell r (known items parent_name) _ (λ parent.
    cell r (known items component_name) _ (λ component.
    last r faults.MASTER_COMPONENT (is_master_at items component) _)))))

master_at : (version : Version) (calendar : ShopCalendar) (items : List Item) (r : Cells) → IfErr (master_row version calendar items r) (IsAt r)
unfolding master_row
master_at version calendar items r =
    cell r (name_of (cell_at r 0)) _ (λ name.
    cell r (word_of (kind_words version) (cell_at r 1)) _ (λ kind.
    cell r (date_cell (cell_at r 2)) _ (λ date.
    cell r (number_cell 0 limits.MOST_PIECES (cell_at r 3)) _ (λ quantity.
    cell r (known items name) _ (λ item.
    cell r (or_code faults.DATE_OUTSIDE (week_of calendar date)) _ (λ week.
    last r (class_fault (kind_at kind)) (not (has_kind (item_at items item).class (kind_at kind))) _))))))

stock_at : (items : List Item) (before : List StockRow) (r : Cells) → IfErr (stock_row items before r) (IsAt r)
unfolding stock_cells
stock_at items before r = step r (stock_cells items r) (stock_checked before r)
    (cell r (name_of (cell_at r 0)) _ (λ name.
    cell r (number_cell 0 limits.MOST_PIECES (cell_at r 1)) _ (λ on_hand.
    cell r (known items name) _ (λ item. tt))))
    (λ row. last r faults.REPEATED (list_any (nat_eq row.item) (items_in_stock before)) row)

placed_at : (calendar : ShopCalendar) (items : List Item) (r : Cells) (o : OpenOrder) → IfErr (receipt_placed calendar items r o) (IsAt r)
unfolding receipt_placed
placed_at calendar items r o =
    cell r (or_code faults.DATE_OUTSIDE (week_of calendar o.date)) _ (λ week.
    last r faults.MASTER_RECEIPT (is_master_at items o.item) _)

receipt_at : (calendar : ShopCalendar) (items : List Item) (before : List Receipt) (r : Cells) → IfErr (receipt_row calendar items before r) (IsAt r)
unfolding order_cells
receipt_at calendar items before r = step r (order_cells items r) (λ o. order_checked (orders_of before) r o >>= receipt_placed calendar items r)
    (cell r (name_of (cell_at r 0)) _ (λ name.
    cell r (name_of (cell_at r 1)) _ (λ order.
    cell r (date_cell (cell_at r 2)) _ (λ date.
    cell r (number_cell 0 limits.MOST_PIECES (cell_at r 3)) _ (λ quantity.
    cell r (known items name) _ (λ item. tt))))))
    (λ o. step r (order_checked (orders_of before) r o) (receipt_placed calendar items r)
    (last r faults.REPEATED (list_any (same_order (o.item, o.order)) (orders_of before)) o)
    (λ checked. placed_at calendar items r checked))

centre_at : (before : List Centre) (r : Cells) → IfErr (centre_row before r) (IsAt r)
unfolding centre_cells
centre_at before r = step r (centre_cells r) (centre_checked before r)
    (cell r (name_of (cell_at r 0)) _ (λ name.
    cell r (number_cell 0 limits.MOST_MINUTES (cell_at r 1)) _ (λ minutes. tt)))
    (λ centre. last r faults.REPEATED (list_any (pointwise nat_eq centre.name) (centre_names before)) centre)

line_placed_at : (centres : List Centre) (r : Cells) (line : RoutingLine) → IfErr (routing_placed centres r line) (IsAt r)
unfolding routing_placed
line_placed_at centres r line = cell r (known_centre centres line.centre) _ (λ centre. tt)

operation_at : (items : List Item) (centres : List Centre) (before : List Operation) (r : Cells) → IfErr (operation_row items centres before r) (IsAt r)
unfolding routing_cells
operation_at items centres before r = step r (routing_cells items r) (λ line. routing_checked (operations_of before) r line >>= routing_placed centres r)
    (cell r (name_of (cell_at r 0)) _ (λ name.
    cell r (number_cell 1 limits.GREATEST_OPERATION (cell_at r 1)) _ (λ operation.
    cell r (name_of (cell_at r 2)) _ (λ centre.
    cell r (number_cell 0 limits.MOST_SETUP (cell_at r 3)) _ (λ setup.
    cell r (number_cell 0 limits.MOST_RUN (cell_at r 4)) _ (λ run.
    cell r (number_cell 0 limits.MOST_OFFSET (cell_at r 5)) _ (λ offset.
    cell r (known items name) _ (λ item. tt))))))))
    (λ line. step r (routing_checked (operations_of before) r line) (routing_placed centres r)
    (last r faults.REPEATED (list_any (same_operation (line.item, line.operation)) (operations_of before)) line)
    (λ checked. line_placed_at centres r checked))

checked_at : (before : List Item) (r : Cells) (item : Item) (repeated : Bool) → list_any (pointwise nat_eq item.name) (names_of before) ≡ repeated → IfErr (item_checked before r item) (IsAt r)
checked_at before r item true e = rw e (own r faults.REPEATED)
checked_at before r item false e = rw e (last r faults.MASTER_SAFETY (is_master item.class && nat_lt 0 item.safety) item)

least_at : (version : Version) (r : Cells) → IfErr (least_cell version r) (IsAt r)
least_at version r = one_of {X = ℕ} r (has_steps version) (blame r (number_cell 0 limits.MOST_LEAST (cell_at r 7))) (Ok 0) (blamed r (number_cell 0 limits.MOST_LEAST (cell_at r 7))) tt

multiple_at : (version : Version) (r : Cells) → IfErr (step_cell version r) (IsAt r)
multiple_at version r = one_of {X = ℕ} r (has_steps version) (blame r (number_cell 1 limits.MOST_STEP (cell_at r 8))) (Ok 1) (blamed r (number_cell 1 limits.MOST_STEP (cell_at r 8))) tt

item_at_record : (version : Version) (before : List Item) (r : Cells) → IfErr (item_row version before r) (IsAt r)
unfolding item_cells
item_at_record version before r = step r (item_cells version r) (item_checked before r)
    (cell r (name_of (cell_at r 0)) _ (λ name.
    cell r (word_of class_words (cell_at r 1)) _ (λ class.
    cell r (number_cell 0 (most_lead version) (cell_at r 2)) _ (λ lead.
    cell r (number_cell 0 limits.MOST_SCRAP (cell_at r 3)) _ (λ scrap.
    cell r (word_of lot_words (cell_at r 4)) _ (λ lot.
    cell r (number_cell (least_size lot) (greatest_size lot) (cell_at r 5)) _ (λ size.
    cell r (number_cell 0 limits.MOST_PIECES (cell_at r 6)) _ (λ safety.
    step r (least_cell version r) _ (least_at version r) (λ least.
    step r (step_cell version r) _ (multiple_at version r) (λ multiple. tt))))))))))
    (λ item. checked_at before r item (list_any (pointwise nat_eq item.name) (names_of before)) refl)

spot_at : (calendar : ShopCalendar) (items : List Item) (r : Cells) (name : List ℕ) (date : Date) → IfErr (spot_of calendar items r name date) (IsAt r)
unfolding spot_of
spot_at calendar items r name date =
    cell r (known items name) _ (λ item.
    cell r (or_code faults.DATE_OUTSIDE (week_of calendar date)) _ (λ week.
    cell r (mastered items item) _ (λ master. tt)))

book_at : (calendar : ShopCalendar) (items : List Item) (r : Cells) → IfErr (book_cells calendar items r) (IsAt r)
unfolding book_cells
book_at calendar items r =
    cell r (name_of (cell_at r 2)) _ (λ name.
    cell r (date_cell (cell_at r 3)) _ (λ date.
    cell r (number_cell 1 limits.MOST_PIECES (cell_at r 4)) _ (λ quantity.
    step r (spot_of calendar items r name date) _ (spot_at calendar items r name date) (λ spot. tt))))

cancel_at : (r : Cells) → IfErr (cancel_cells r) (IsAt r)
unfolding cancel_cells
cancel_at r = cell r (number_cell 1 limits.MOST_ENTRIES (cell_at r 5)) _ (λ entry. tt)

ask_at : (calendar : ShopCalendar) (items : List Item) (r : Cells) → IfErr (ask_cells calendar items r) (IsAt r)
unfolding ask_cells
ask_at calendar items r =
    cell r (name_of (cell_at r 2)) _ (λ name.
    cell r (date_cell (cell_at r 3)) _ (λ date.
    step r (spot_of calendar items r name date) _ (spot_at calendar items r name date) (λ spot. tt)))

when_at : (items : List Item) (r : Cells) → IfErr (when_cells items r) (IsAt r)
unfolding when_cells
when_at items r =
    cell r (name_of (cell_at r 2)) _ (λ name.
    cell r (number_cell 1 limits.MOST_PIECES (cell_at r 4)) _ (λ quantity.
    cell r (known items name) _ (λ item.
    cell r (mastered items item) _ (λ master. tt))))

call_at_record : (calendar : ShopCalendar) (items : List Item) (r : Cells) (place : ℕ) → IfErr (call_at calendar items r place) (IsAt r)
call_at_record calendar items r place =
    one_of r (place == 0) _ _ (book_at calendar items r)
    (one_of r (place == 1) _ _ (cancel_at r)
    (one_of r (place == 2) _ _ (ask_at calendar items r)
    (one_of {X = ScriptCall} r (place == 3) (when_cells items r) (Ok call.Run) (when_at items r) tt)))

script_at : (calendar : ShopCalendar) (items : List Item) (r : Cells) → IfErr (script_row calendar items r) (IsAt r)
unfolding script_row
script_at calendar items r =
    cell r (number_cell 1 limits.MOST_DESKS (cell_at r 0)) _ (λ desk.
    cell r (word_of call_words (cell_at r 1)) _ (λ place.
    step r (call_at calendar items r place) _ (call_at_record calendar items r place) (λ own. tt)))

pub at_their_records : FaultsAtTheirRecords
at_their_records = record {
  calendar = reads calendar_reads entry_at;
  items = λ version. reads (reads_of t.Items (item_row version)) (item_at_record version);
  centres = reads (reads_of t.Centres centre_row) centre_at;
  stock = λ items. reads (reads_of t.Stock (stock_row items)) (stock_at items);
  receipts = λ calendar items. reads (reads_of t.Receipts (receipt_row calendar items)) (receipt_at calendar items);
  bills = λ items. reads (reads_of t.Bills (by_itself (bill_row items))) (λ before r. bill_at items r);
  routings = λ items centres. reads (reads_of t.Routings (operation_row items centres)) (operation_at items centres);
  master = λ version calendar items. reads (reads_of t.Master (by_itself (master_row version calendar items))) (λ before r. master_at version calendar items r);
  script = λ calendar items. reads (reads_of t.Script (by_itself (script_row calendar items))) (λ before r. script_at calendar items r);
}
