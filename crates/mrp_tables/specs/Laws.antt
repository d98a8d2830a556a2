-- What holds of every table's rows, and of the tables of every bundle.
use Rattle.std.specs.Prelude.{ℕ, ◌≡◌, ◌≢◌, ◌⊎◌, ◌<◌, true, false, List, [], ◌∷◌, length, map, take, slice_index_or, IfErr, Result, Ok, Err}
use Rattle.mrp_qty.specs.Reading.{◌>>=◌}
use Rattle.mrp_cal.specs.Calendar.{ShopCalendar}
use Rattle.mrp_rows.specs.declared.fault.Fault.{Fault}
use Rattle.mrp_rows.specs.declared.faults.TheConstants as faults
use Rattle.mrp_rows.specs.declared.fault.Table.{Table}
use Rattle.mrp_rows.specs.declared.fault.Table.TheVariants as t
use Rattle.mrp_rows.specs.Columns.{Layout, width}
use Rattle.mrp_rows.specs.Left.{Cells, Left}
use Rattle.mrp_rows.specs.Cell.{fault_at}
use Rattle.mrp_rows.specs.Next.{next_number, opened}
use Rattle.mrp_rows.specs.Tables.{table_index}
use Rattle.mrp_tables.specs.declared.item.Item.{Item}
use Rattle.mrp_tables.specs.declared.rows.Centre.{Centre}
use Rattle.mrp_tables.specs.declared.version.Version.{Version}
use Rattle.mrp_tables.specs.Bills.{bill_row}
use Rattle.mrp_tables.specs.Calendar.{calendar_reads}
use Rattle.mrp_tables.specs.Centres.{centre_row}
use Rattle.mrp_tables.specs.Items.{item_row}
use Rattle.mrp_tables.specs.Master.{master_row}
use Rattle.mrp_tables.specs.Readers.{IsRefusedAt, table_in}
use Rattle.mrp_tables.specs.Reading.{Reads, admitted, by_itself, is_past, reads_of, rows_of}
use Rattle.mrp_tables.specs.Receipts.{receipt_row}
use Rattle.mrp_tables.specs.Routings.{operation_row}
use Rattle.mrp_tables.specs.Script.{script_row}
use Rattle.mrp_tables.specs.Stock.{stock_row}
use Rattle.mrp_tables.specs.Tables.{AreTables, Tables, tables_in}

-- the number of the record at a place, counted from 0
abbrev pub number_at : ℕ → ℕ
number_at place = next_number place

-- the record at a place of a table's records
abbrev pub record_at : Layout → List (List (List ℕ)) → ℕ → Cells
record_at own records place = record { table = own.table; number = number_at place; cells = slice_index_or records place [] }

-- what a record reads as after these rows: its count of cells is checked before the cells
abbrev pub read_one : {X : Type 0} → Reads X → Layout → List X → Cells → Result X Fault
read_one read own before r = admitted (read.limit before) own r >>= read.row before

-- rows are records read one by one: there are as many, and each is what its record reads as after the rows before it
pub record AreReadFrom {X : Type 0} (read : Reads X) (own : Layout) (records : List (List (List ℕ))) (rows : List X) : Type 0 where
  pub count : length rows ≡ length records
  pub each : (place : ℕ) (d : X) → place < length rows → read_one read own (take place rows) (record_at own records place) ≡ Ok (slice_index_or rows place d)

-- a fault is that of the record at a place, and the records before it are read
pub record IsFirstFault {X : Type 0} (read : Reads X) (own : Layout) (records : List (List (List ℕ))) (f : Fault) : Type 0 where
  pub place : ℕ
  pub before : List X
  pub within : place < length records
  pub earlier : AreReadFrom read own (take place records) before
  pub refused : read_one read own before (record_at own records place) ≡ Err f

-- records are read one by one, up to the first that is refused
abbrev pub AreReadInTurn : {X : Type 0} → Reads X → Layout → List (List (List ℕ)) → Result (List X) Fault → Type 0
AreReadInTurn read own records (Ok rows) = AreReadFrom read own records rows
AreReadInTurn read own records (Err f) = IsFirstFault read own records f

-- a table's reading: its header first, and then its records in order
pub record IsReadInTurn {X : Type 0} (read : Reads X) (own : Layout) (text : List ℕ) : Type 0 where
  pub header : (f : Fault) → opened own text ≡ Err f → rows_of read own text ≡ Err f
  pub records : (all : Left) → opened own text ≡ Ok all → AreReadInTurn read own all.left (rows_of read own text)

-- a record beyond its table's limit is refused for that, whatever its cells; one within it that has not a cell for each
-- column, for that; all others are read
pub record IsAdmittedFirst {X : Type 0} (read : Reads X) (own : Layout) (before : List X) (r : Cells) : Type 0 where
  pub past : is_past (read.limit before) r.number ≡ true → read_one read own before r ≡ Err (fault_at r faults.TOO_MANY)
  pub wide : is_past (read.limit before) r.number ≡ false → length r.cells ≢ width own → read_one read own before r ≡ Err (fault_at r faults.COLUMNS)
  pub admitted : is_past (read.limit before) r.number ≡ false → length r.cells ≡ width own → read_one read own before r ≡ read.row before r

-- a fault names a record
pub record IsAt (r : Cells) (f : Fault) : Type 0 where
  pub table : f.table ≡ r.table
  pub row : f.row ≡ r.number

-- each fault of a table's records names the record that is read
abbrev pub FaultsAtItsRecord : {X : Type 0} → Reads X → Type 0
FaultsAtItsRecord {X} read = (own : Layout) (before : List X) (r : Cells) → IfErr (read_one read own before r) (IsAt r)

-- each table's faults name their records
pub record FaultsAtTheirRecords : Type 0 where
  pub calendar : FaultsAtItsRecord calendar_reads
  pub items : (version : Version) → FaultsAtItsRecord (reads_of t.Items (item_row version))
  pub centres : FaultsAtItsRecord (reads_of t.Centres centre_row)
  pub stock : (items : List Item) → FaultsAtItsRecord (reads_of t.Stock (stock_row items))
  pub receipts : (calendar : ShopCalendar) (items : List Item) → FaultsAtItsRecord (reads_of t.Receipts (receipt_row calendar items))
  pub bills : (items : List Item) → FaultsAtItsRecord (reads_of t.Bills (by_itself (bill_row items)))
  pub routings : (items : List Item) (centres : List Centre) → FaultsAtItsRecord (reads_of t.Routings (operation_row items centres))
  pub master : (version : Version) (calendar : ShopCalendar) (items : List Item) → FaultsAtItsRecord (reads_of t.Master (by_itself (master_row version calendar items)))
  pub script : (calendar : ShopCalendar) (items : List Item) → FaultsAtItsRecord (reads_of t.Script (by_itself (script_row calendar items)))

-- that a table is read whole, or its fault
abbrev pub whole : {X : Type 0} → Result X Fault → Result (Unit {0}) Fault
whole (Ok x) = Ok tt
whole (Err f) = Err f

-- whether a table is read whole, given the tables that it refers to
abbrev pub reading_of : List (List ℕ) → Table → Result (Unit {0}) Fault
reading_of texts own = whole (table_in texts own)

-- each table of a bundle is what its own text reads as, given the tables that it refers to
pub record AreOfTheirTexts (texts : List (List ℕ)) (tables : Tables) : Type 0 where
  pub calendar : table_in texts t.Calendar ≡ Ok (record { version = tables.version; calendar = tables.calendar })
  pub items : table_in texts t.Items ≡ Ok tables.items
  pub centres : table_in texts t.Centres ≡ Ok tables.centres
  pub stock : table_in texts t.Stock ≡ Ok tables.stock
  pub receipts : table_in texts t.Receipts ≡ Ok tables.receipts
  pub bills : table_in texts t.Bills ≡ Ok tables.bills
  pub routings : table_in texts t.Routings ≡ Ok tables.routings
  pub master : table_in texts t.Master ≡ Ok tables.master
  pub script : table_in texts t.Script ≡ Ok tables.script

-- the tables in the order of their faults
abbrev pub table_order : List Table
table_order =
    t.Calendar ∷ t.Items ∷ t.Centres ∷ t.Stock ∷ t.Receipts ∷ t.Bills ∷ t.Routings ∷ t.Master ∷ t.Script ∷ []

-- all are read whole, or the first fault
abbrev pub all_whole : List (Result (Unit {0}) Fault) → Result (Unit {0}) Fault
all_whole [] = Ok tt
all_whole (r ∷ rest) = r >>= λ whole. all_whole rest

-- the tables before one are all read whole
abbrev pub AreWholeBefore : List (List ℕ) → Table → Type 0
AreWholeBefore texts own = all_whole (map (reading_of texts) (take (table_index own) table_order)) ≡ Ok tt

-- a fault is reported at its table, and the tables before it are all read whole
pub record IsReportedAtItsTable (texts : List (List ℕ)) (f : Fault) : Type 0 where
  pub own : reading_of texts f.table ≡ Err f
  pub earlier : AreWholeBefore texts f.table

-- out of memory while a table was read: the records before the fault's are read, and the tables before it are all read
-- whole
pub record IsMemoryRefusal (texts : List (List ℕ)) (f : Fault) : Type 0 where
  pub code : f.code ≡ faults.NO_MEMORY
  pub at : IsRefusedAt texts f f.table
  pub earlier : AreWholeBefore texts f.table

-- a bundle's fault is that of its first table, in their order, that is not read whole
abbrev pub IsFirstTablesFault : List (List ℕ) → Type 0
IsFirstTablesFault texts = whole (tables_in texts) ≡ all_whole (map (reading_of texts) table_order)

-- texts have tables, of which all holds that holds of accepted tables, or a fault, which is reported at its table; no two
-- of either, and not both
pub record HasOneReading (texts : List (List ℕ)) : Type 0 where
  pub either : ((tables : Tables) × (tables_in texts ≡ Ok tables) × AreTables tables) ⊎ ((f : Fault) × (tables_in texts ≡ Err f) × IsReportedAtItsTable texts f)
  pub tables : (a b : Tables) → tables_in texts ≡ Ok a → tables_in texts ≡ Ok b → a ≡ b
  pub faults : (f g : Fault) → tables_in texts ≡ Err f → tables_in texts ≡ Err g → f ≡ g
  pub apart : (tables : Tables) (f : Fault) → tables_in texts ≡ Ok tables → tables_in texts ≡ Err f → ⊥
