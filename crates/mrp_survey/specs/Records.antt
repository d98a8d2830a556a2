-- A table's text as its records, with their lines (profile).
use Rattle.std.specs.Prelude.{ℕ, if◌then◌else◌, List, [], ◌∷◌, slice_index, Option, Some, None}
use Rattle.mrp_rows.specs.declared.fault.Table.{Table}
use Rattle.mrp_rows.specs.Records.{records_of}
use Rattle.mrp_survey.specs.declared.finding.Place.{Place}
use Rattle.mrp_survey.specs.declared.form.Form.{Form}
use Rattle.mrp_survey.specs.declared.front.Front.{Front}
use Rattle.mrp_survey.specs.Forms.{AllCells}
use Rattle.mrp_survey.specs.Fronts.{front_of}
use Rattle.mrp_survey.specs.Headers.{can_be_read, header_shown}
use Rattle.mrp_survey.specs.Lines.{record_lines}

-- what a table's text begins as, its records, the header first, and the line of each in the file that it is in
pub record Records : Type 0 where
  pub file : Table
  pub front : Front
  pub rows : List AllCells
  pub lines : List ℕ

-- the records of a text that begins in this line of a file
abbrev pub records_from : Table → ℕ → List ℕ → Records
records_from file line text = record { file = file; front = front_of text; rows = records_of text; lines = record_lines line text }

-- the records after the header, if that can be read
abbrev pub rows_under : Form → List AllCells → Option (List AllCells)
rows_under form [] = None
rows_under form (header ∷ rows) = if can_be_read form (header_shown header) then Some rows else None

abbrev pub rows_below : Form → Records → Option (List AllCells)
rows_below form records = rows_under form records.rows

-- where a record is, by its number, the header's 0
abbrev pub place_of : Records → Table → ℕ → Place
place_of records table number = record { file = records.file; table = table; number = number; line = slice_index records.lines number }
