-- The names of the items that a page is asked to show, as a line gives them (profile).
use Rattle.std.specs.Prelude.{ℕ, Bool, true, false, List, [], Option, Some, None}
use Rattle.csv.specs.Machine.{Read, next_record}
use Rattle.csv.specs.Reading.{default_config, strip_bom}
use Rattle.csv.specs.declared.parser.State.TheVariants as st

-- the cells of a record, or none if there is no record
abbrev pub cells_in : Option Read → List (List ℕ)
cells_in None = []
cells_in (Some read) = read.0

-- the cells of the first csv record in a line
abbrev pub names_of : List ℕ → List (List ℕ)
names_of line = cells_in (next_record default_config st.StartRecord [] [] (strip_bom line))

-- the names of a record, if one was found
abbrev pub record_names : Bool → List (List ℕ) → List (List ℕ)
record_names true cells = cells
record_names false cells = []
