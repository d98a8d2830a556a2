-- What holds of the rows of accepted tables: cells within their limits, places of items and centres that exist, weeks of
-- the horizon.
use Rattle.std.specs.Prelude.{ℕ, ◌≡◌, ◌≢◌, ◌<◌, ◌≤◌, true, false, List, length, AllPairs}
use Rattle.std.specs.Int.{IsInRange}
use Rattle.mrp_rows.specs.Name.{is_name}
use Rattle.mrp_tables.specs.declared.limits.TheConstants as limits
use Rattle.mrp_tables.specs.declared.item.Item.{Item}
use Rattle.mrp_tables.specs.declared.item.LotRule.TheVariants.{Fixed, Period}
use Rattle.mrp_tables.specs.declared.rows.Centre.{Centre}
use Rattle.mrp_tables.specs.declared.rows.StockRow.{StockRow}
use Rattle.mrp_tables.specs.declared.receipts.OpenOrder.{OpenOrder}
use Rattle.mrp_tables.specs.declared.rows.Receipt.{Receipt}
use Rattle.mrp_tables.specs.declared.rows.BillLine.{BillLine}
use Rattle.mrp_tables.specs.declared.routings.RoutingLine.{RoutingLine}
use Rattle.mrp_tables.specs.declared.rows.Operation.{Operation}
use Rattle.mrp_tables.specs.declared.rows.MasterRow.{MasterRow}
use Rattle.mrp_tables.specs.declared.rows.ScriptCall.{ScriptCall}
use Rattle.mrp_tables.specs.declared.rows.ScriptCall.TheVariants as call
use Rattle.mrp_tables.specs.declared.rows.ScriptRow.{ScriptRow}
use Rattle.mrp_tables.specs.Items.{is_master, is_master_at, item_at}
use Rattle.mrp_tables.specs.Master.{has_kind}

-- no two of a list are the same
abbrev pub AllDiffer : {X : Type 0} → List X → Type 0
AllDiffer xs = AllPairs (λ x y. x ≢ y) xs

-- an item: a name, a lead time no longer than that of any version, scrap per thousand, a fixed lot's pieces, a period's weeks, pieces of safety stock,
-- none for a master item, a minimum order quantity and an order multiple
pub record IsItem (item : Item) : Type 0 where
  pub name : is_name item.name ≡ true
  pub lead : item.lead ≤ limits.MOST_LEAD
  pub scrap : item.scrap ≤ limits.MOST_SCRAP
  pub fixed : (pieces : ℕ) → item.lot ≡ Fixed pieces → IsInRange 1 limits.MOST_PIECES pieces
  pub period : (weeks : ℕ) → item.lot ≡ Period weeks → IsInRange 1 limits.MOST_PERIOD weeks
  pub safety : item.safety ≤ limits.MOST_PIECES
  pub master : is_master item.class ≡ true → item.safety ≡ 0
  pub least : item.least ≤ limits.MOST_LEAST
  pub step : IsInRange 1 limits.MOST_STEP item.step

-- what is read of an item before it is checked as a whole: an item, unless a master item has safety stock
abbrev pub IsItemUnlessStocked : Item → Type 0
IsItemUnlessStocked item = (is_master item.class ≡ true → item.safety ≡ 0) → IsItem item

-- a work centre: a name, its minutes of a shop day
pub record IsCentre (centre : Centre) : Type 0 where
  pub name : is_name centre.name ≡ true
  pub minutes : centre.minutes ≤ limits.MOST_MINUTES

-- the stock on hand of an item, in pieces
pub record IsStockRow (items : List Item) (row : StockRow) : Type 0 where
  pub item : row.item < length items
  pub on_hand : row.on_hand ≤ limits.MOST_PIECES

-- an open order of an item that exists, with a name of its own
pub record IsOpenOrder (items : List Item) (order : OpenOrder) : Type 0 where
  pub item : order.item < length items
  pub name : is_name order.order ≡ true
  pub quantity : order.quantity ≤ limits.MOST_PIECES

-- the numbers of open receipts' records rise from row to row
abbrev pub NumbersRise : List Receipt → Type 0
NumbersRise rows = AllPairs (λ a b. a.number < b.number) rows

-- the numbers of the master schedule's records rise from row to row
abbrev pub RowsRise : List MasterRow → Type 0
RowsRise rows = AllPairs (λ a b. a.number < b.number) rows

-- an open receipt of a part, with its order's name, due in a week of the horizon, of at least one piece
pub record IsReceipt (weeks : ℕ) (items : List Item) (row : Receipt) : Type 0 where
  pub item : row.item < length items
  pub order : is_name row.order ≡ true
  pub part : is_master_at items row.item ≡ false
  pub week : IsInRange 1 weeks row.week
  pub quantity : IsInRange 1 limits.MOST_PIECES row.quantity

-- what is read of an open receipt: a receipt, if it has a piece
abbrev pub IsReceiptIfAny : ℕ → List Item → Receipt → Type 0
IsReceiptIfAny weeks items row = 0 < row.quantity → IsReceipt weeks items row

-- a bill line; its component is not a master item
pub record IsBillLine (items : List Item) (line : BillLine) : Type 0 where
  pub parent : line.parent < length items
  pub component : line.component < length items
  pub part : is_master_at items line.component ≡ false
  pub per : IsInRange 1 limits.MOST_PER line.per

-- a routing line, of an item that exists
pub record IsRoutingLine (items : List Item) (line : RoutingLine) : Type 0 where
  pub item : line.item < length items
  pub operation : IsInRange 1 limits.GREATEST_OPERATION line.operation
  pub setup : line.setup ≤ limits.MOST_SETUP
  pub run : line.run ≤ limits.MOST_RUN
  pub offset : line.offset ≤ limits.MOST_OFFSET

-- an operation of an item in a centre, which both exist: its number, minutes of setup, thousandths of a minute for a
-- piece, weeks from the release
pub record IsOperation (items : List Item) (centres : List Centre) (row : Operation) : Type 0 where
  pub item : row.item < length items
  pub operation : IsInRange 1 limits.GREATEST_OPERATION row.operation
  pub centre : row.centre < length centres
  pub setup : row.setup ≤ limits.MOST_SETUP
  pub run : row.run ≤ limits.MOST_RUN
  pub offset : row.offset ≤ limits.MOST_OFFSET

-- a row of an item whose class has such rows, in a week of the horizon, of at least one piece
pub record IsMasterRow (weeks : ℕ) (items : List Item) (row : MasterRow) : Type 0 where
  pub item : row.item < length items
  pub class : has_kind (item_at items row.item).class row.kind ≡ true
  pub week : IsInRange 1 weeks row.week
  pub quantity : IsInRange 1 limits.MOST_PIECES row.quantity

-- what is read of a row of the master schedule: a row, if it has a piece
abbrev pub IsMasterRowIfAny : ℕ → List Item → MasterRow → Type 0
IsMasterRowIfAny weeks items row = 0 < row.quantity → IsMasterRow weeks items row

-- a master item that exists
pub record IsMasterItem (items : List Item) (place : ℕ) : Type 0 where
  pub there : place < length items
  pub master : is_master_at items place ≡ true

-- a call of a script: of master items, in weeks of the horizon, of at least one piece; of an entry by its number
pub record IsScriptCall (weeks : ℕ) (items : List Item) (given : ScriptCall) : Type 0 where
  pub book : (item week quantity : ℕ) → given ≡ call.Book item week quantity → IsMasterItem items item × IsInRange 1 weeks week × IsInRange 1 limits.MOST_PIECES quantity
  pub cancel : (entry : ℕ) → given ≡ call.Cancel entry → IsInRange 1 limits.MOST_ENTRIES entry
  pub ask : (item week : ℕ) → given ≡ call.Ask item week → IsMasterItem items item × IsInRange 1 weeks week
  pub when : (item quantity : ℕ) → given ≡ call.When item quantity → IsMasterItem items item × IsInRange 1 limits.MOST_PIECES quantity

-- a row of the script: the call of a desk
pub record IsScriptRow (weeks : ℕ) (items : List Item) (row : ScriptRow) : Type 0 where
  pub desk : IsInRange 1 limits.MOST_DESKS row.desk
  pub call : IsScriptCall weeks items row.call
