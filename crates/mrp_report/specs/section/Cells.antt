-- Cells that rows of several sections have.
use Rattle.std.specs.Prelude.{ℕ, ◌-◌, List, [], decimal, Option, Some, None, slice_get}
use Rattle.mrp_tables.specs.Items.{item_at}
use Rattle.mrp_tables.specs.Tables.{Tables}
use Rattle.mrp_tables.specs.declared.rows.BillLine.{BillLine}

-- an item's name; an empty cell if there is no item at the place
abbrev pub name_at : Tables → ℕ → List ℕ
name_at t item = (item_at t.items item).name

-- a number, if there is one
abbrev pub number_cell : Option ℕ → List ℕ
number_cell None = []
number_cell (Some n) = decimal n

abbrev pub name_of_parent : Tables → Option BillLine → List ℕ
name_of_parent t None = []
name_of_parent t (Some line) = name_at t line.parent

-- the name of the parent of a bill line, by the line's number from 1
abbrev pub parent_name : Tables → ℕ → List ℕ
parent_name t line = name_of_parent t (slice_get t.bills (line - 1))
