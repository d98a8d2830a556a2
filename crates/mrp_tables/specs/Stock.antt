-- The stock on hand (profile).
use Rattle.std.specs.Prelude.{ℕ, nat_eq, if◌then◌else◌, List, map, Result, Ok, Err}
use Rattle.std.specs.List.{list_any}
use Rattle.mrp_qty.specs.Reading.{◌>>=◌}
use Rattle.mrp_rows.specs.declared.fault.Fault.{Fault}
use Rattle.mrp_rows.specs.declared.faults.TheConstants as faults
use Rattle.mrp_rows.specs.Left.{Cells}
use Rattle.mrp_rows.specs.Cell.{cell_at, fault_at, blame, name_of, number_cell}
use Rattle.mrp_tables.specs.declared.limits.TheConstants as limits
use Rattle.mrp_tables.specs.declared.item.Item.{Item}
use Rattle.mrp_tables.specs.declared.rows.StockRow.{StockRow}
use Rattle.mrp_tables.specs.Items.{known}

abbrev pub items_in_stock : List StockRow → List ℕ
items_in_stock rows = map (λ s. s.item) rows

-- the cells from left to right; then an item that exists, or UNKNOWN_ITEM
unfoldable pub stock_cells : List Item → Cells → Result StockRow Fault
stock_cells items r = do
  name ← blame r (name_of (cell_at r 0))
  on_hand ← blame r (number_cell 0 limits.MOST_PIECES (cell_at r 1))
  item ← blame r (known items name)
  Ok (record { item = item; on_hand = on_hand })

-- no earlier row has the item, or REPEATED: an item that is repeated exists, so no record has both faults
abbrev pub stock_checked : List StockRow → Cells → StockRow → Result StockRow Fault
stock_checked before r row = if list_any (nat_eq row.item) (items_in_stock before) then Err (fault_at r faults.REPEATED) else Ok row

abbrev pub stock_row : List Item → List StockRow → Cells → Result StockRow Fault
stock_row items before r = stock_cells items r >>= stock_checked before r
