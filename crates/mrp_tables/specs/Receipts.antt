-- The open receipts (Orlicky: scheduled receipts): orders that were released before the horizon began (profile: their form).
use Rattle.std.specs.Prelude.{ℕ, ◌&&◌, Bool, nat_eq, nat_lt, if◌then◌else◌, List, filter, map, Result, Ok, Err}
use Rattle.std.specs.List.{list_any}
use Rattle.std.specs.Cmp.Lexicographic.{pointwise}
use Rattle.mrp_qty.specs.Reading.{◌>>=◌}
use Rattle.mrp_cal.specs.Calendar.{ShopCalendar, week_of}
use Rattle.mrp_rows.specs.declared.fault.Fault.{Fault}
use Rattle.mrp_rows.specs.declared.faults.TheConstants as faults
use Rattle.mrp_rows.specs.Left.{Cells}
use Rattle.mrp_rows.specs.Cell.{cell_at, fault_at, blame, or_code, name_of, number_cell, date_cell}
use Rattle.mrp_tables.specs.declared.limits.TheConstants as limits
use Rattle.mrp_tables.specs.declared.item.Item.{Item}
use Rattle.mrp_tables.specs.declared.receipts.OpenOrder.{OpenOrder}
use Rattle.mrp_tables.specs.declared.rows.Receipt.{Receipt}
use Rattle.mrp_tables.specs.Items.{known, is_master_at}

-- the item and the order's name of each row
abbrev pub orders_of : List Receipt → List (ℕ × List ℕ)
orders_of rows = map (λ r. (r.item, r.order)) rows

abbrev pub same_order : ℕ × List ℕ → ℕ × List ℕ → Bool
same_order a b = nat_eq a.0 b.0 && pointwise nat_eq a.1 b.1

-- the cells from left to right; then an item that exists, or UNKNOWN_ITEM
unfoldable pub order_cells : List Item → Cells → Result OpenOrder Fault
order_cells items r = do
  name ← blame r (name_of (cell_at r 0))
  order ← blame r (name_of (cell_at r 1))
  date ← blame r (date_cell (cell_at r 2))
  quantity ← blame r (number_cell 0 limits.MOST_PIECES (cell_at r 3))
  item ← blame r (known items name)
  Ok (record { item = item; order = order; date = date; quantity = quantity })

-- an item and an order that are new, or REPEATED: an item that is repeated exists, so no record has both faults
abbrev pub order_checked : List (ℕ × List ℕ) → Cells → OpenOrder → Result OpenOrder Fault
order_checked seen r o = if list_any (same_order (o.item, o.order)) seen then Err (fault_at r faults.REPEATED) else Ok o

-- a week of the horizon, or DATE_OUTSIDE; not a master item, or MASTER_RECEIPT
unfoldable pub receipt_placed : ShopCalendar → List Item → Cells → OpenOrder → Result Receipt Fault
receipt_placed calendar items r o = do
  week ← blame r (or_code faults.DATE_OUTSIDE (week_of calendar o.date))
  if is_master_at items o.item then Err (fault_at r faults.MASTER_RECEIPT) else Ok (record { number = r.number; item = o.item; order = o.order; week = week; quantity = o.quantity })

-- a record, given the items and orders so far
abbrev pub receipt_beside : ShopCalendar → List Item → List (ℕ × List ℕ) → Cells → Result Receipt Fault
receipt_beside calendar items seen r =
    order_cells items r >>= λ read. order_checked seen r read >>= receipt_placed calendar items r

-- a record, given the earlier rows
abbrev pub receipt_row : ShopCalendar → List Item → List Receipt → Cells → Result Receipt Fault
receipt_row calendar items before r = receipt_beside calendar items (orders_of before) r

-- a row of quantity 0 is checked like any other, and then dropped
abbrev pub receipts_that_count : List Receipt → List Receipt
receipts_that_count rows = filter (λ row. nat_lt 0 row.quantity) rows
