-- A bundle's fault, reported at its table.
use Rattle.std.proofs.Common.{◌≡◌, ℕ, List, Result, Ok, Err, refl, sym, subst}
use Rattle.mrp_qty.specs.Reading.{◌>>=◌}
use Rattle.mrp_cal.specs.Calendar.{ShopCalendar}
use Rattle.mrp_rows.specs.Bundle.{text_in}
use Rattle.mrp_rows.specs.Columns.{layout_of}
use Rattle.mrp_rows.specs.declared.fault.Fault.{Fault}
use Rattle.mrp_rows.specs.declared.fault.Table.{Table}
use Rattle.mrp_rows.specs.declared.fault.Table.TheVariants as t
use Rattle.mrp_tables.specs.declared.calendar.CalendarTable.{CalendarTable}
use Rattle.mrp_tables.specs.declared.item.Item.{Item}
use Rattle.mrp_tables.specs.declared.rows.Centre.{Centre}
use Rattle.mrp_tables.specs.declared.version.Version.{Version}
use Rattle.mrp_tables.specs.Bills.{bill_row}
use Rattle.mrp_tables.specs.Centres.{centre_row}
use Rattle.mrp_tables.specs.Items.{item_row}
use Rattle.mrp_tables.specs.Laws.{AreWholeBefore, FaultsAtItsRecord, IsReportedAtItsTable, reading_of, whole}
use Rattle.mrp_tables.specs.Master.{master_row, that_count}
use Rattle.mrp_tables.specs.Readers.{by_centres, by_dates, by_items, by_version, calendar_in, calendar_table_in, centres_in, items_in, table_in, version_in}
use Rattle.mrp_tables.specs.Reading.{Reads, by_itself, reads_of, rows_of}
use Rattle.mrp_tables.specs.Receipts.{receipt_row, receipts_that_count}
use Rattle.mrp_tables.specs.Routings.{operation_row}
use Rattle.mrp_tables.specs.Script.{script_row}
use Rattle.mrp_tables.specs.Stock.{stock_row}
use Rattle.mrp_tables.specs.Tables.{tables_in}
use Rattle.mrp_tables.specs.Versions.{items_layout}
use Rattle.mrp_tables.proofs.Blaming.{at_their_records}
use Rattle.mrp_tables.proofs.OwnTable.{IsOf, calendar_own, follows, rows_own}
use Rattle.mrp_tables.proofs.TableLaws.{refused_by_table}

-- the calendar's table, at whose version the items look, is read whole
looked_at_first : {X : Type 0} (x : Result X Fault) (rest : Result (Unit {0}) Fault) → (whole x >>= λ v. rest) ≡ Ok tt → (a : X) × (x ≡ Ok a)
looked_at_first (Ok a) rest given = (a, refl)
looked_at_first (Err f) rest given = absurd cc

-- the calendar and the items, of which others are read beside, are read whole
looked_at : {X Y : Type 0} (x : Result X Fault) (y : Result Y Fault) (rest : Result (Unit {0}) Fault)
    → (whole x >>= λ v. whole y >>= λ w. rest) ≡ Ok tt → (a : X) × (x ≡ Ok a) × (b : Y) × (y ≡ Ok b)
looked_at (Ok a) (Ok b) rest given = (a, refl, b, refl)
looked_at (Ok a) (Err f) rest given = absurd cc
looked_at (Err f) y rest given = absurd cc

-- and so are the centres
looked_at_centres : {X Y Z : Type 0} (x : Result X Fault) (y : Result Y Fault) (z : Result Z Fault) (rest : Result (Unit {0}) Fault)
    → (whole x >>= λ v. whole y >>= λ w. whole z >>= λ u. rest) ≡ Ok tt → (b : Y) × (y ≡ Ok b) × (c : Z) × (z ≡ Ok c)
looked_at_centres (Ok a) (Ok b) (Ok c) rest given = (b, refl, c, refl)
looked_at_centres (Ok a) (Ok b) (Err f) rest given = absurd cc
looked_at_centres (Ok a) (Err f) z rest given = absurd cc
looked_at_centres (Err f) y z rest given = absurd cc

calendar_of : (texts : List (List ℕ)) (table : CalendarTable) → calendar_table_in texts ≡ Ok table → calendar_in texts ≡ Ok table.calendar
calendar_of texts table is = rw is refl

version_of_table : (texts : List (List ℕ)) (table : CalendarTable) → calendar_table_in texts ≡ Ok table → version_in texts ≡ Ok table.version
version_of_table texts table is = rw is refl

-- the faults of a table that is read beside these are its own
items_own : {X : Type 0} (texts : List (List ℕ)) (own : Table) (reads : List Item → Reads X) (items : List Item) → items_in texts ≡ Ok items
    → FaultsAtItsRecord (reads items) → IsOf own (by_items texts reads >>= λ read. rows_of read (layout_of own) (text_in texts own))
items_own texts own reads items is at = rw is (rows_own (reads items) at (layout_of own) (text_in texts own))

dates_own : {X : Type 0} (texts : List (List ℕ)) (own : Table) (reads : ShopCalendar → List Item → Reads X) (calendar : ShopCalendar) (items : List Item)
    → calendar_in texts ≡ Ok calendar → items_in texts ≡ Ok items
    → FaultsAtItsRecord (reads calendar items) → IsOf own (by_dates texts reads >>= λ read. rows_of read (layout_of own) (text_in texts own))
dates_own texts own reads calendar items is_calendar is_items at = rw (is_calendar, is_items) (rows_own (reads calendar items) at (layout_of own) (text_in texts own))

version_own : {X : Type 0} (texts : List (List ℕ)) (own : Table) (reads : Version → ShopCalendar → List Item → Reads X) (version : Version) (calendar : ShopCalendar) (items : List Item)
    → version_in texts ≡ Ok version → calendar_in texts ≡ Ok calendar → items_in texts ≡ Ok items
    → FaultsAtItsRecord (reads version calendar items) → IsOf own (by_version texts reads >>= λ read. rows_of read (layout_of own) (text_in texts own))
version_own texts own reads version calendar items is_version is_calendar is_items at = rw (is_items, is_calendar, is_version) (rows_own (reads version calendar items) at (layout_of own) (text_in texts own))

centres_own : {X : Type 0} (texts : List (List ℕ)) (own : Table) (reads : List Item → List Centre → Reads X) (items : List Item) (centres : List Centre)
    → items_in texts ≡ Ok items → centres_in texts ≡ Ok centres
    → FaultsAtItsRecord (reads items centres) → IsOf own (by_centres texts reads >>= λ read. rows_of read (layout_of own) (text_in texts own))
centres_own texts own reads items centres is_items is_centres at = rw (is_items, is_centres) (rows_own (reads items centres) at (layout_of own) (text_in texts own))

counted_own : {X : Type 0} (own : Table) (count : List X → List X) (read : Result (List X) Fault) → IsOf own read → IsOf own (read >>= λ rows. Ok (count rows))
counted_own own count read at = follows own read (λ rows. Ok (count rows)) at (λ rows e. tt)

-- after tables that are read whole, a table's fault is its own
own_fault : (texts : List (List ℕ)) (own : Table) → AreWholeBefore texts own → IsOf own (table_in texts own)
own_fault texts t.Calendar earlier = calendar_own (text_in texts t.Calendar)
own_fault texts t.Items earlier =
    let (table, is_table) = looked_at_first (calendar_table_in texts) _ earlier in
    rw is_table (rows_own (reads_of t.Items (item_row table.version)) (at_their_records.items table.version) (items_layout table.version) (text_in texts t.Items))
own_fault texts t.Centres earlier = rows_own (reads_of t.Centres centre_row) at_their_records.centres (layout_of t.Centres) (text_in texts t.Centres)
own_fault texts t.Stock earlier =
    let (table, is_table, items, is_items) = looked_at (calendar_table_in texts) (items_in texts) _ earlier in
    items_own texts t.Stock (λ items. reads_of t.Stock (stock_row items)) items is_items (at_their_records.stock items)
own_fault texts t.Receipts earlier =
    let (table, is_table, items, is_items) = looked_at (calendar_table_in texts) (items_in texts) _ earlier in
    let calendar = table.calendar in
    let is_calendar = calendar_of texts table is_table in
    counted_own t.Receipts receipts_that_count _ (dates_own texts t.Receipts (λ calendar items. reads_of t.Receipts (receipt_row calendar items)) calendar items is_calendar is_items (at_their_records.receipts calendar items))
own_fault texts t.Bills earlier =
    let (table, is_table, items, is_items) = looked_at (calendar_table_in texts) (items_in texts) _ earlier in
    items_own texts t.Bills (λ items. reads_of t.Bills (by_itself (bill_row items))) items is_items (at_their_records.bills items)
own_fault texts t.Routings earlier =
    let (items, is_items, centres, is_centres) = looked_at_centres (calendar_table_in texts) (items_in texts) (centres_in texts) _ earlier in
    centres_own texts t.Routings (λ items centres. reads_of t.Routings (operation_row items centres)) items centres is_items is_centres (at_their_records.routings items centres)
own_fault texts t.Master earlier =
    let (table, is_table, items, is_items) = looked_at (calendar_table_in texts) (items_in texts) _ earlier in
    let calendar = table.calendar in
    let is_calendar = calendar_of texts table is_table in
    let is_version = version_of_table texts table is_table in
    counted_own t.Master that_count _ (version_own texts t.Master (λ version calendar items. reads_of t.Master (by_itself (master_row version calendar items))) table.version calendar items is_version is_calendar is_items (at_their_records.master table.version calendar items))
own_fault texts t.Script earlier =
    let (table, is_table, items, is_items) = looked_at (calendar_table_in texts) (items_in texts) _ earlier in
    let calendar = table.calendar in
    let is_calendar = calendar_of texts table is_table in
    dates_own texts t.Script (λ calendar items. reads_of t.Script (by_itself (script_row calendar items))) calendar items is_calendar is_items (at_their_records.script calendar items)
own_fault texts t.Bundle earlier = tt

at_own : {X : Type 0} (own : Table) (r : Result X Fault) (f : Fault) → IsOf own r → whole r ≡ Err f → f.table ≡ own
at_own own (Ok x) f at given = absurd cc
at_own own (Err g) f at given = let same : g ≡ f = cc in rw same at at

pub reported_at_its_table : (texts : List (List ℕ)) (f : Fault) → tables_in texts ≡ Err f → IsReportedAtItsTable texts f
reported_at_its_table texts f given =
    let by = refused_by_table texts f given in
    let table : f.table ≡ by.own = at_own by.own (table_in texts by.own) f (own_fault texts by.own by.earlier) by.refused in
    record {
      own = subst (λ (at : Table). reading_of texts at ≡ Err f) (sym table) by.refused;
      earlier = subst (AreWholeBefore texts) (sym table) by.earlier;
    }
