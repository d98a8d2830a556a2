-- The work centres (APICS Dictionary: work center; profile: their form).
use Rattle.std.specs.Prelude.{ℕ, nat_eq, if◌then◌else◌, List, map, position, Option, Result, Ok, Err}
use Rattle.std.specs.List.{list_any}
use Rattle.std.specs.Cmp.Lexicographic.{pointwise}
use Rattle.mrp_qty.specs.Reading.{◌>>=◌}
use Rattle.mrp_rows.specs.declared.fault.Fault.{Fault}
use Rattle.mrp_rows.specs.declared.faults.TheConstants as faults
use Rattle.mrp_rows.specs.Left.{Cells}
use Rattle.mrp_rows.specs.Cell.{cell_at, fault_at, blame, or_code, name_of, number_cell}
use Rattle.mrp_tables.specs.declared.limits.TheConstants as limits
use Rattle.mrp_tables.specs.declared.rows.Centre.{Centre}

abbrev pub centre_names : List Centre → List (List ℕ)
centre_names centres = map (λ c. c.name) centres

-- the place of a name among the centres
abbrev pub centre_place : List ℕ → List Centre → Option ℕ
centre_place name centres = position (pointwise nat_eq name) (centre_names centres)

-- the place of the centre with a name, or UNKNOWN_CENTRE
abbrev pub known_centre : List Centre → List ℕ → Result ℕ ℕ
known_centre centres name = or_code faults.UNKNOWN_CENTRE (centre_place name centres)

-- a record's cells, from left to right
unfoldable pub centre_cells : Cells → Result Centre Fault
centre_cells r = do
  name ← blame r (name_of (cell_at r 0))
  minutes ← blame r (number_cell 0 limits.MOST_MINUTES (cell_at r 1))
  Ok (record { name = name; minutes = minutes })

-- no earlier centre has the name, or REPEATED
abbrev pub centre_checked : List Centre → Cells → Centre → Result Centre Fault
centre_checked before r centre =
    if list_any (pointwise nat_eq centre.name) (centre_names before) then Err (fault_at r faults.REPEATED) else Ok centre

abbrev pub centre_row : List Centre → Cells → Result Centre Fault
centre_row before r = centre_cells r >>= centre_checked before r
