-- The typed tables of a bundle (profile).
use Rattle.std.specs.Prelude.{ℕ, ◌≤◌, List, All, length, Result, Ok}
use Rattle.mrp_qty.specs.Reading.{◌>>=◌}
use Rattle.mrp_cal.specs.Calendar.{ShopCalendar}
use Rattle.mrp_rows.specs.Bundle.{bundle_of}
use Rattle.mrp_rows.specs.declared.fault.Fault.{Fault}
use Rattle.mrp_rows.specs.declared.fault.Table.TheVariants as t
use Rattle.mrp_tables.specs.declared.limits.TheConstants as limits
use Rattle.mrp_tables.specs.declared.item.Item.{Item}
use Rattle.mrp_tables.specs.declared.version.Version.{Version}
use Rattle.mrp_tables.specs.declared.rows.Centre.{Centre}
use Rattle.mrp_tables.specs.declared.rows.StockRow.{StockRow}
use Rattle.mrp_tables.specs.declared.rows.Receipt.{Receipt}
use Rattle.mrp_tables.specs.declared.rows.BillLine.{BillLine}
use Rattle.mrp_tables.specs.declared.rows.Operation.{Operation}
use Rattle.mrp_tables.specs.declared.rows.MasterRow.{MasterRow}
use Rattle.mrp_tables.specs.declared.rows.ScriptRow.{ScriptRow}
use Rattle.mrp_tables.specs.Centres.{centre_names}
use Rattle.mrp_tables.specs.Facts.{AllDiffer, IsBillLine, IsCentre, IsItem, IsMasterRow, IsOperation, IsReceipt, IsScriptRow, IsStockRow, NumbersRise, RowsRise}
use Rattle.mrp_tables.specs.Items.{names_of}
use Rattle.mrp_tables.specs.Readers.{table_in}
use Rattle.mrp_tables.specs.Receipts.{orders_of}
use Rattle.mrp_tables.specs.Routings.{operations_of}
use Rattle.mrp_tables.specs.Stock.{items_in_stock}
use Rattle.mrp_tables.specs.Versions.{most_lead}

-- the tables, each as its rows in table order
pub record Tables : Type 0 where
  pub version : Version
  pub calendar : ShopCalendar
  pub items : List Item
  pub centres : List Centre
  pub stock : List StockRow
  pub receipts : List Receipt
  pub bills : List BillLine
  pub routings : List Operation
  pub master : List MasterRow
  pub script : List ScriptRow

-- what accepted tables keep: rows within their limits, lead times within those of their version, of items and centres that are there and weeks of the horizon; open receipts and a master schedule whose records' numbers rise; names that differ, items that stand in the stock at most once, and orders and operations of an item that stand in the receipts and in the routings at most once; no more rows than the limits
pub record AreTables (t : Tables) : Type 0 where
  pub items : All IsItem t.items
  pub leads : All (λ item. item.lead ≤ most_lead t.version) t.items
  pub names : AllDiffer (names_of t.items)
  pub item_count : length t.items ≤ limits.MOST_ITEMS
  pub centres : All IsCentre t.centres
  pub centres_differ : AllDiffer (centre_names t.centres)
  pub centre_count : length t.centres ≤ limits.MOST_CENTRES
  pub stock : All (IsStockRow t.items) t.stock
  pub stocked : AllDiffer (items_in_stock t.stock)
  pub receipts : All (IsReceipt t.calendar.weeks t.items) t.receipts
  pub numbered : NumbersRise t.receipts
  pub ordered : AllDiffer (orders_of t.receipts)
  pub receipt_count : length t.receipts ≤ limits.MOST_ROWS
  pub bills : All (IsBillLine t.items) t.bills
  pub line_count : length t.bills ≤ limits.MOST_ROWS
  pub routings : All (IsOperation t.items t.centres) t.routings
  pub routed : AllDiffer (operations_of t.routings)
  pub operation_count : length t.routings ≤ limits.MOST_OPERATIONS
  pub master : All (IsMasterRow t.calendar.weeks t.items) t.master
  pub scheduled : RowsRise t.master
  pub master_count : length t.master ≤ limits.MOST_ROWS
  pub script : All (IsScriptRow t.calendar.weeks t.items) t.script
  pub script_count : length t.script ≤ limits.MOST_ROWS

-- the tables of the sections' texts, in the order of their faults
unfoldable pub tables_in : List (List ℕ) → Result Tables Fault
tables_in texts = do
  dated ← table_in texts t.Calendar
  items ← table_in texts t.Items
  centres ← table_in texts t.Centres
  stock ← table_in texts t.Stock
  receipts ← table_in texts t.Receipts
  bills ← table_in texts t.Bills
  routings ← table_in texts t.Routings
  master ← table_in texts t.Master
  script ← table_in texts t.Script
  Ok (record {
    version = dated.version;
    calendar = dated.calendar;
    items = items;
    centres = centres;
    stock = stock;
    receipts = receipts;
    bills = bills;
    routings = routings;
    master = master;
    script = script;
  })

-- the tables of a bundle, or its first fault
abbrev pub tables_of : List ℕ → Result Tables Fault
tables_of bundle = bundle_of bundle >>= tables_in
