-- The bill lines that lead from item to item (profile).
use Rattle.std.specs.Prelude.{ℕ, ◌+◌, ◌&&◌, if◌then◌else◌, is_none, List, [], ◌∷◌, ◌++◌, take, Option, Some, None, option_and_then}
use Rattle.std.specs.Option.{option_to_list}
use Rattle.mrp_survey.specs.declared.bill_lines.BillLine.{BillLine}
use Rattle.mrp_survey.specs.declared.form.Form.{Form}
use Rattle.mrp_survey.specs.Entry.{Entry}
use Rattle.mrp_survey.specs.Entries.{name_in}
use Rattle.mrp_survey.specs.Forms.{AllCells}
use Rattle.mrp_survey.specs.Headers.{limit_of}
use Rattle.mrp_survey.specs.Marks.{is_whole}
use Rattle.mrp_survey.specs.Names.{Names, place_among}
use Rattle.mrp_survey.specs.Records.{Records}
use Rattle.mrp_survey.specs.Rules.{misfit}
use Rattle.mrp_survey.specs.Tables.{entry_at, width_of}

-- the place of the item in a column, where it is known
abbrev pub known_place : Option Names → Entry → ℕ → Option ℕ
known_place items entry column = option_and_then (λ names. option_and_then (place_among names) (name_in entry column)) items

-- a line with two known items
abbrev pub line_of : ℕ → Option ℕ → Option ℕ → Option BillLine
line_of number (Some parent) (Some component) = Some (record { number = number; line = record { parent = parent; component = component } })
line_of number (Some parent) None = None
line_of number None component = None

-- a whole record as a bill line, where both items are known and the component is not told as a master item
abbrev pub bill_line : ℕ → Option Names → Entry → Option BillLine
bill_line width items entry =
    if is_whole width entry.row && is_none (misfit items entry 1) then line_of entry.place.number (known_place items entry 0) (known_place items entry 1) else None

-- the bill lines of the remaining records
unfoldable pub lines_from : Form → Option Names → Records → ℕ → List AllCells → List BillLine
lines_from form items records number [] = []
lines_from form items records number (row ∷ rows) =
    option_to_list (bill_line (width_of form) items (entry_at form records number row)) ++ lines_from form items records (number + 1) rows

-- the records within a limit
abbrev pub within_limit : Option ℕ → List AllCells → List AllCells
within_limit (Some limit) rows = take limit rows
within_limit None rows = rows

-- the bill lines of a table's records
abbrev pub bill_lines : Form → Option Names → Records → List AllCells → List BillLine
bill_lines form items records rows = lines_from form items records 1 (within_limit (limit_of form) rows)
