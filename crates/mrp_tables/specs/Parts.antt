-- The three parts in which a bundle's tables are read: the calendar, the items and the centres; from the stock to the
-- routings; and the master schedule with the script.
use Rattle.std.specs.Prelude.{ℕ, ◌≡◌, ◌⊎◌, List, Result, Ok, Err}
use Rattle.std.specs.Global.{Vec}
use Rattle.mrp_rows.specs.declared.fault.Fault.{Fault}
use Rattle.mrp_rows.specs.declared.fault.Table.TheVariants as t
use Rattle.mrp_tables.specs.declared.first_tables.FirstTables.{FirstTables}
use Rattle.mrp_tables.specs.declared.stock_to_routings.StockToRoutings.{StockToRoutings}
use Rattle.mrp_tables.specs.declared.master_and_script.MasterAndScript.{MasterAndScript}
use Rattle.mrp_tables.specs.declared.rows.Receipt.{Receipt}
use Rattle.mrp_tables.specs.declared.rows.StockRow.{StockRow}
use Rattle.mrp_tables.specs.Laws.{AreWholeBefore, IsMemoryRefusal}
use Rattle.mrp_tables.specs.Readers.{table_in}
use Rattle.mrp_tables.specs.Tables.{Tables, tables_in}

-- a refusal is the bundle's: its first fault, or out of memory at a table after others that are read whole
abbrev pub IsBundleRefusal : List (List ℕ) → Fault → Type 0
IsBundleRefusal texts f = IsMemoryRefusal texts f ⊎ (tables_in texts ≡ Err f)

-- these are the bundle's first tables
pub record AreFirst (texts : List (List ℕ)) (first : FirstTables) : Type 0 where
  pub calendar : table_in texts t.Calendar ≡ Ok (record { version = first.version; calendar = first.calendar })
  pub items : table_in texts t.Items ≡ Ok first.items
  pub centres : table_in texts t.Centres ≡ Ok first.centres

-- rows are those of the stock, the open receipts, the bills and the routings
pub record AreStockToRoutings (texts : List (List ℕ)) (rows : StockToRoutings) : Type 0 where
  pub stock : table_in texts t.Stock ≡ Ok rows.stock.items
  pub receipts : table_in texts t.Receipts ≡ Ok rows.receipts.items
  pub bills : table_in texts t.Bills ≡ Ok rows.bills.items
  pub routings : table_in texts t.Routings ≡ Ok rows.routings.items

-- rows are those of the master schedule and of the script
pub record AreMasterAndScript (texts : List (List ℕ)) (rows : MasterAndScript) : Type 0 where
  pub master : table_in texts t.Master ≡ Ok rows.master.items
  pub script : table_in texts t.Script ≡ Ok rows.script.items

-- a call returned the first tables, or the bundle's refusal
abbrev pub GivesFirst : List (List ℕ) → Result FirstTables Fault → Type 0
GivesFirst texts (Ok first) = AreFirst texts first
GivesFirst texts (Err f) = IsBundleRefusal texts f

-- a call returned the rows of the stock and of the open receipts, or the bundle's refusal
abbrev pub GivesSupplies : List (List ℕ) → Result (Vec StockRow × Vec Receipt) Fault → Type 0
GivesSupplies texts (Ok rows) = (table_in texts t.Stock ≡ Ok rows.0.items) × (table_in texts t.Receipts ≡ Ok rows.1.items)
GivesSupplies texts (Err f) = IsBundleRefusal texts f

-- a call returned the rows from the stock to the routings, or the bundle's refusal
abbrev pub GivesStockToRoutings : List (List ℕ) → Result StockToRoutings Fault → Type 0
GivesStockToRoutings texts (Ok rows) = AreStockToRoutings texts rows
GivesStockToRoutings texts (Err f) = IsBundleRefusal texts f

-- a call returned the rows of the master schedule and of the script, or a refusal that is the bundle's if all tables
-- before them are read whole
abbrev pub GivesMasterAndScript : List (List ℕ) → Result MasterAndScript Fault → Type 0
GivesMasterAndScript texts (Ok rows) = AreMasterAndScript texts rows
GivesMasterAndScript texts (Err f) = AreWholeBefore texts t.Master → IsBundleRefusal texts f

-- the tables of three parts
abbrev pub tables_from : FirstTables → StockToRoutings → MasterAndScript → Tables
tables_from first rows last = record {
  version = first.version;
  calendar = first.calendar;
  items = first.items;
  centres = first.centres;
  stock = rows.stock.items;
  receipts = rows.receipts.items;
  bills = rows.bills.items;
  routings = rows.routings.items;
  master = last.master.items;
  script = last.script.items;
}
