-- The routings (APICS Dictionary: routing), a line for each operation (profile: its form).
use Rattle.std.specs.Prelude.{ℕ, ◌&&◌, Bool, nat_eq, if◌then◌else◌, List, map, Result, Ok, Err}
use Rattle.std.specs.List.{list_any}
use Rattle.mrp_qty.specs.Reading.{◌>>=◌}
use Rattle.mrp_rows.specs.declared.fault.Fault.{Fault}
use Rattle.mrp_rows.specs.declared.faults.TheConstants as faults
use Rattle.mrp_rows.specs.Left.{Cells}
use Rattle.mrp_rows.specs.Cell.{cell_at, fault_at, blame, name_of, number_cell}
use Rattle.mrp_tables.specs.declared.limits.TheConstants as limits
use Rattle.mrp_tables.specs.declared.item.Item.{Item}
use Rattle.mrp_tables.specs.declared.routings.RoutingLine.{RoutingLine}
use Rattle.mrp_tables.specs.declared.rows.Centre.{Centre}
use Rattle.mrp_tables.specs.declared.rows.Operation.{Operation}
use Rattle.mrp_tables.specs.Centres.{known_centre}
use Rattle.mrp_tables.specs.Items.{known}

-- the item and the operation's number of each row
abbrev pub operations_of : List Operation → List (ℕ × ℕ)
operations_of rows = map (λ o. (o.item, o.operation)) rows

abbrev pub same_operation : ℕ × ℕ → ℕ × ℕ → Bool
same_operation a b = nat_eq a.0 b.0 && nat_eq a.1 b.1

-- the cells from left to right; then an item that exists, or UNKNOWN_ITEM
unfoldable pub routing_cells : List Item → Cells → Result RoutingLine Fault
routing_cells items r = do
  name ← blame r (name_of (cell_at r 0))
  operation ← blame r (number_cell 1 limits.GREATEST_OPERATION (cell_at r 1))
  centre ← blame r (name_of (cell_at r 2))
  setup ← blame r (number_cell 0 limits.MOST_SETUP (cell_at r 3))
  run ← blame r (number_cell 0 limits.MOST_RUN (cell_at r 4))
  offset ← blame r (number_cell 0 limits.MOST_OFFSET (cell_at r 5))
  item ← blame r (known items name)
  Ok (record { item = item; operation = operation; centre = centre; setup = setup; run = run; offset = offset })

-- an item and an operation's number that are new, or REPEATED: an item that is repeated exists, so no record has both
-- faults
abbrev pub routing_checked : List (ℕ × ℕ) → Cells → RoutingLine → Result RoutingLine Fault
routing_checked seen r line = if list_any (same_operation (line.item, line.operation)) seen then Err (fault_at r faults.REPEATED) else Ok line

-- a centre that exists, or UNKNOWN_CENTRE
unfoldable pub routing_placed : List Centre → Cells → RoutingLine → Result Operation Fault
routing_placed centres r line = do
  centre ← blame r (known_centre centres line.centre)
  Ok (record { item = line.item; operation = line.operation; centre = centre; setup = line.setup; run = line.run; offset = line.offset })

-- a record, given the items and operations so far
abbrev pub operation_beside : List Item → List Centre → List (ℕ × ℕ) → Cells → Result Operation Fault
operation_beside items centres seen r =
    routing_cells items r >>= λ line. routing_checked seen r line >>= routing_placed centres r

-- a record, given the earlier rows
abbrev pub operation_row : List Item → List Centre → List Operation → Cells → Result Operation Fault
operation_row items centres before r = operation_beside items centres (operations_of before) r
