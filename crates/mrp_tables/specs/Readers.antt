-- How the tables are read: one reader for each (profile).
use Rattle.std.specs.Prelude.{ℕ, ◌≡◌, List, Result, Ok, Err}
use Rattle.mrp_qty.specs.Reading.{◌>>=◌}
use Rattle.mrp_cal.specs.Calendar.{ShopCalendar}
use Rattle.mrp_rows.specs.Bundle.{text_in}
use Rattle.mrp_rows.specs.Columns.{Layout, columns_of, layout_of}
use Rattle.mrp_rows.specs.declared.fault.Fault.{Fault}
use Rattle.mrp_rows.specs.declared.fault.Table.{Table}
use Rattle.mrp_rows.specs.declared.fault.Table.TheVariants as t
use Rattle.mrp_rows.specs.Next.{header_fault}
use Rattle.mrp_tables.specs.declared.calendar.CalendarTable.{CalendarTable}
use Rattle.mrp_tables.specs.declared.calendar.Entry.{Entry}
use Rattle.mrp_tables.specs.declared.item.Item.{Item}
use Rattle.mrp_tables.specs.declared.rows.Centre.{Centre}
use Rattle.mrp_tables.specs.declared.version.Version.{Version}
use Rattle.mrp_tables.specs.Bills.{bill_row}
use Rattle.mrp_tables.specs.Calendar.{calendar_from, calendar_reads}
use Rattle.mrp_tables.specs.Centres.{centre_row}
use Rattle.mrp_tables.specs.Items.{item_row}
use Rattle.mrp_tables.specs.Master.{master_row, that_count}
use Rattle.mrp_tables.specs.Reading.{Gives, IsRefusedIn, Reads, by_itself, reads_of, rows_of}
use Rattle.mrp_tables.specs.Receipts.{receipt_row, receipts_that_count}
use Rattle.mrp_tables.specs.Routings.{operation_row}
use Rattle.mrp_tables.specs.Script.{script_row}
use Rattle.mrp_tables.specs.Stock.{stock_row}
use Rattle.mrp_tables.specs.Versions.{item_columns}

-- a table's reader: how its records are read, given the tables that it refers to, and what is made of their rows
pub record Reader : Type 1 where
  pub Row : Type 0
  pub Whole : Type 0
  pub reads : Result (Reads Row) Fault
  pub made : Result (List Row) Fault → Result Whole Fault

-- what a text reads as by a reader
abbrev pub read_by : (reader : Reader) → Layout → List ℕ → Result reader.Whole Fault
read_by reader own text = reader.made (reader.reads >>= λ read. rows_of read own text)

-- a table that is its rows
abbrev pub rows_by : {X : Type 0} → Result (Reads X) Fault → Reader
rows_by {X} reads = record { Row = X; Whole = List X; reads = reads; made = λ rows. rows }

-- a table that is those of its rows that have pieces
abbrev pub rows_that : {X : Type 0} → (List X → List X) → Result (Reads X) Fault → Reader
rows_that {X} count reads = record { Row = X; Whole = List X; reads = reads; made = λ read. read >>= λ rows. Ok (count rows) }

-- the calendar and the centres look at no table, the items and the master schedule at the version that the calendar's table has
abbrev pub calendar_reader : Reader
calendar_reader = record { Row = Entry; Whole = CalendarTable; reads = Ok calendar_reads; made = λ read. read >>= calendar_from }

abbrev pub calendar_table_in : List (List ℕ) → Result CalendarTable Fault
calendar_table_in texts = read_by calendar_reader (layout_of t.Calendar) (text_in texts t.Calendar)

abbrev pub version_in : List (List ℕ) → Result Version Fault
version_in texts = calendar_table_in texts >>= λ table. Ok table.version

abbrev pub calendar_in : List (List ℕ) → Result ShopCalendar Fault
calendar_in texts = calendar_table_in texts >>= λ table. Ok table.calendar

abbrev pub items_reader : List (List ℕ) → Reader
items_reader texts = rows_by (version_in texts >>= λ version. Ok (reads_of t.Items (item_row version)))

-- the columns of the items of a version; without one, no item is read
abbrev pub columns_by : Result Version Fault → List (List ℕ)
columns_by (Ok version) = item_columns version
columns_by (Err f) = columns_of t.Items

abbrev pub items_in : List (List ℕ) → Result (List Item) Fault
items_in texts = read_by (items_reader texts) (record { table = t.Items; columns = columns_by (version_in texts) }) (text_in texts t.Items)

abbrev pub centres_reader : Reader
centres_reader = rows_by (Ok (reads_of t.Centres centre_row))

abbrev pub centres_in : List (List ℕ) → Result (List Centre) Fault
centres_in texts = read_by centres_reader (layout_of t.Centres) (text_in texts t.Centres)

-- others refer to the items, those with dates also to the calendar, the master schedule to the version, and the routings to
-- the centres
abbrev pub by_items : {X : Type 0} → List (List ℕ) → (List Item → Reads X) → Result (Reads X) Fault
by_items texts reads = items_in texts >>= λ items. Ok (reads items)

abbrev pub by_dates : {X : Type 0} → List (List ℕ) → (ShopCalendar → List Item → Reads X) → Result (Reads X) Fault
by_dates texts reads = calendar_in texts >>= λ calendar. by_items texts (reads calendar)

abbrev pub by_version : {X : Type 0} → List (List ℕ) → (Version → ShopCalendar → List Item → Reads X) → Result (Reads X) Fault
by_version texts reads = version_in texts >>= λ version. by_dates texts (reads version)

abbrev pub by_centres : {X : Type 0} → List (List ℕ) → (List Item → List Centre → Reads X) → Result (Reads X) Fault
by_centres texts reads = items_in texts >>= λ items. centres_in texts >>= λ centres. Ok (reads items centres)

-- each table's reader; the bundle itself has no records, and nothing in it is refused
abbrev pub reader_of : List (List ℕ) → Table → Reader
reader_of texts t.Calendar = calendar_reader
reader_of texts t.Items = items_reader texts
reader_of texts t.Centres = centres_reader
reader_of texts t.Stock = rows_by (by_items texts (λ items. reads_of t.Stock (stock_row items)))
reader_of texts t.Receipts = rows_that receipts_that_count (by_dates texts (λ calendar items. reads_of t.Receipts (receipt_row calendar items)))
reader_of texts t.Bills = rows_by (by_items texts (λ items. reads_of t.Bills (by_itself (bill_row items))))
reader_of texts t.Routings = rows_by (by_centres texts (λ items centres. reads_of t.Routings (operation_row items centres)))
reader_of texts t.Master = rows_that that_count (by_version texts (λ version calendar items. reads_of t.Master (by_itself (master_row version calendar items))))
reader_of texts t.Script = rows_by (by_dates texts (λ calendar items. reads_of t.Script (by_itself (script_row calendar items))))
reader_of texts t.Bundle = record { Row = ⊥; Whole = Unit {0}; reads = Err (header_fault t.Bundle); made = λ read. Ok tt }

-- the columns of each table of a bundle: those of the items are its version's
abbrev pub columns_in : List (List ℕ) → Table → List (List ℕ)
columns_in texts t.Calendar = columns_of t.Calendar
columns_in texts t.Items = columns_by (version_in texts)
columns_in texts t.Centres = columns_of t.Centres
columns_in texts t.Stock = columns_of t.Stock
columns_in texts t.Receipts = columns_of t.Receipts
columns_in texts t.Bills = columns_of t.Bills
columns_in texts t.Routings = columns_of t.Routings
columns_in texts t.Master = columns_of t.Master
columns_in texts t.Script = columns_of t.Script
columns_in texts t.Bundle = columns_of t.Bundle

abbrev pub layout_in : List (List ℕ) → Table → Layout
layout_in texts own = record { table = own; columns = columns_in texts own }

-- what a table's own text reads as
abbrev pub table_in : (texts : List (List ℕ)) (own : Table) → Result (reader_of texts own).Whole Fault
table_in texts own = read_by (reader_of texts own) (layout_in texts own) (text_in texts own)

-- out of memory while a table was read: for its header, or for a record after those that are read
abbrev pub IsRefusedAt : List (List ℕ) → Fault → Table → Type 0
IsRefusedAt texts f own =
    (read : Reads (reader_of texts own).Row) × ((reader_of texts own).reads ≡ Ok read) × IsRefusedIn read (layout_in texts own) (text_in texts own) f

-- what a call returned, seen by view, is what the table's text reads as, unless it was out of memory
abbrev pub GivesTable : (texts : List (List ℕ)) (own : Table) {X : Type 0} → Result X Fault → (X → (reader_of texts own).Whole) → Type 0
GivesTable texts own result view = Gives (λ f. IsRefusedAt texts f own) view result (table_in texts own)
