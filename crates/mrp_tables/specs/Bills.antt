-- The bills of material (Orlicky: bill of material), a line for each component (profile: its form).
use Rattle.std.specs.Prelude.{if◌then◌else◌, List, Result, Ok, Err}
use Rattle.mrp_qty.specs.Reading.{◌>>=◌}
use Rattle.mrp_rows.specs.declared.fault.Fault.{Fault}
use Rattle.mrp_rows.specs.declared.faults.TheConstants as faults
use Rattle.mrp_rows.specs.Left.{Cells}
use Rattle.mrp_rows.specs.Cell.{cell_at, fault_at, blame, name_of, number_cell}
use Rattle.mrp_tables.specs.declared.limits.TheConstants as limits
use Rattle.mrp_tables.specs.declared.item.Item.{Item}
use Rattle.mrp_tables.specs.declared.rows.BillLine.{BillLine}
use Rattle.mrp_tables.specs.Items.{known, is_master_at}

-- the cells from left to right; then items that exist, and no master item as component
unfoldable pub bill_row : List Item → Cells → Result BillLine Fault
bill_row items r = do
  parent_name ← blame r (name_of (cell_at r 0))
  component_name ← blame r (name_of (cell_at r 1))
  per ← blame r (number_cell 1 limits.MOST_PER (cell_at r 2))
  parent ← blame r (known items parent_name)
  component ← blame r (known items component_name)
  if is_master_at items component then Err (fault_at r faults.MASTER_COMPONENT) else Ok (record { parent = parent; component = component; per = per })
