-- The master schedule (APICS Dictionary: master production schedule; profile: its form).
use Rattle.std.specs.Prelude.{ℕ, ◌==◌, Bool, true, false, not, nat_lt, if◌then◌else◌, List, filter, Result, Ok, Err}
use Rattle.mrp_qty.specs.Reading.{◌>>=◌}
use Rattle.mrp_cal.specs.Calendar.{ShopCalendar, week_of}
use Rattle.mrp_rows.specs.declared.fault.Fault.{Fault}
use Rattle.mrp_rows.specs.declared.faults.TheConstants as faults
use Rattle.mrp_rows.specs.Left.{Cells}
use Rattle.mrp_rows.specs.Cell.{cell_at, fault_at, blame, or_code, name_of, number_cell, word_of, date_cell}
use Rattle.mrp_tables.specs.declared.limits.TheConstants as limits
use Rattle.mrp_tables.specs.declared.item.Class.{Class}
use Rattle.mrp_tables.specs.declared.item.Item.{Item}
use Rattle.mrp_tables.specs.declared.rows.MasterKind.{MasterKind}
use Rattle.mrp_tables.specs.declared.rows.MasterKind.TheVariants.{Firm, Forecast, Service}
use Rattle.mrp_tables.specs.declared.rows.MasterRow.{MasterRow}
use Rattle.mrp_tables.specs.declared.version.Version.{Version}
use Rattle.mrp_tables.specs.Items.{known, is_master, item_at}
use Rattle.mrp_tables.specs.Versions.{kind_words}

-- the kind of a word's place
abbrev pub kind_at : ℕ → MasterKind
kind_at place = if place == 0 then Firm else if place == 1 then Forecast else Service

-- an order of the master schedule
abbrev pub is_firm : MasterKind → Bool
is_firm Firm = true
is_firm Forecast = false
is_firm Service = false

-- a forecast of demand
abbrev pub is_forecast : MasterKind → Bool
is_forecast Firm = false
is_forecast Forecast = true
is_forecast Service = false

-- independent demand for a part (APICS Dictionary: service parts demand)
abbrev pub is_service : MasterKind → Bool
is_service Firm = false
is_service Forecast = false
is_service Service = true

-- whether items of a class have rows of a kind: service rows are of parts, the others of master items
abbrev pub has_kind : Class → MasterKind → Bool
has_kind class Firm = is_master class
has_kind class Forecast = is_master class
has_kind class Service = not (is_master class)

-- the fault of a row whose item's class has no rows of its kind
abbrev pub class_fault : MasterKind → ℕ
class_fault Firm = faults.NOT_MASTER
class_fault Forecast = faults.NOT_MASTER
class_fault Service = faults.SERVICE_MASTER

-- the cells from left to right; then an item that exists, a week of the horizon, and an item of a class that has such rows
unfoldable pub master_row : Version → ShopCalendar → List Item → Cells → Result MasterRow Fault
master_row version calendar items r = do
  name ← blame r (name_of (cell_at r 0))
  kind ← blame r (word_of (kind_words version) (cell_at r 1))
  date ← blame r (date_cell (cell_at r 2))
  quantity ← blame r (number_cell 0 limits.MOST_PIECES (cell_at r 3))
  item ← blame r (known items name)
  week ← blame r (or_code faults.DATE_OUTSIDE (week_of calendar date))
  if not (has_kind (item_at items item).class (kind_at kind)) then Err (fault_at r (class_fault (kind_at kind))) else Ok (record { number = r.number; item = item; kind = kind_at kind; week = week; quantity = quantity })

-- a row of quantity 0 is checked like any other, and then dropped
abbrev pub that_count : List MasterRow → List MasterRow
that_count rows = filter (λ row. nat_lt 0 row.quantity) rows
