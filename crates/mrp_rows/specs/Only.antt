-- A text's only record, as a record of a table (profile).
use Rattle.std.specs.Prelude.{ℕ, ◌==◌, if◌then◌else◌, List, [], ◌∷◌, length, Option, Some, None}
use Rattle.mrp_rows.specs.declared.fault.Table.{Table}
use Rattle.mrp_rows.specs.Columns.{columns_of}
use Rattle.mrp_rows.specs.Left.{Cells}

-- of records, the only one, if it has a cell for each column of the table
abbrev pub only_of : Table → ℕ → List (List (List ℕ)) → Option Cells
only_of table number [] = None
only_of table number (cells ∷ []) = if length cells == length (columns_of table) then Some (record { table = table; number = number; cells = cells }) else None
only_of table number (cells ∷ other ∷ others) = None
