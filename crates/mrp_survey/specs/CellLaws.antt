-- What is told of each record that is read.
use Rattle.std.specs.Prelude.{ℕ, ◌≡◌, ◌<◌, ◌+◌, ◌==◌, Bool, true, false, List, [], ◌∷◌, All, filter, is_some, length, map, take, slice_index_or, Some}
use Rattle.std.specs.List.{range_with_len}
use Rattle.mrp_tables.specs.Reading.{is_past}
use Rattle.mrp_survey.specs.declared.finding.What.{What}
use Rattle.mrp_survey.specs.declared.finding.What.TheVariants as what
use Rattle.mrp_survey.specs.declared.form.Form.{Form}
use Rattle.mrp_survey.specs.declared.rule.Beside.{Beside}
use Rattle.mrp_survey.specs.Entry.{Entry}
use Rattle.mrp_survey.specs.Entries.{kind_in, wrong_in}
use Rattle.mrp_survey.specs.Finding.{Told}
use Rattle.mrp_survey.specs.Forms.{AllCells}
use Rattle.mrp_survey.specs.Headers.{limit_of}
use Rattle.mrp_survey.specs.Keys.{Keys}
use Rattle.mrp_survey.specs.Marks.{cell_marks, keys_after, marks_of, rule_marks, told_of}
use Rattle.mrp_survey.specs.Records.{Records}
use Rattle.mrp_survey.specs.Tables.{entry_at, told_from, width_of}
use Rattle.mrp_survey.specs.Told.{Mark}

-- a mark says that a cell is not of its kind, and this is so
abbrev pub IsOfWrongCell : Entry → Mark → Type 0
IsOfWrongCell entry mark = (code : ℕ) × (wrong_in entry mark.0 ≡ Some code) × (mark.1 ≡ what.Cell (kind_in entry mark.0) code)

-- a cell is told as one that is not of its kind
abbrev pub is_of_cell : What → Bool
is_of_cell (what.Cell own code) = true
is_of_cell (what.Header front) = false
is_of_cell what.Blank = false
is_of_cell (what.Columns count) = false
is_of_cell (what.Repeated line) = false
is_of_cell what.UnknownItem = false
is_of_cell what.UnknownCentre = false
is_of_cell what.DateOutside = false
is_of_cell what.NotMaster = false
is_of_cell what.MasterSafety = false
is_of_cell what.MasterReceipt = false
is_of_cell what.MasterComponent = false
is_of_cell what.ServiceMaster = false
is_of_cell what.TooMany = false
is_of_cell (what.Missing key) = false

-- of a record with a cell for each column, each cell that is not of its kind is told once, from the left, and no other is
pub record TellsEachCell (entry : Entry) : Type 0 where
  pub columns : map (λ (mark : Mark). mark.0) (cell_marks entry) ≡ filter (λ column. is_some (wrong_in entry column)) (range_with_len 0 entry.row.count)
  pub wrong : All (IsOfWrongCell entry) (cell_marks entry)
  pub others : (beside : Beside) (seen : Keys) → All (λ (mark : Mark). is_of_cell mark.1 ≡ false) (rule_marks beside seen entry)

-- the keys of records, after those of earlier ones
unfoldable pub keys_behind : Form → Records → Keys → ℕ → List AllCells → Keys
keys_behind form records seen number [] = seen
keys_behind form records seen number (row ∷ rows) = keys_behind form records (keys_after (width_of form) seen (entry_at form records number row)) (number + 1) rows

-- what is told of each record within a table's limit is what is wrong with this record, given the earlier ones
abbrev pub TellsEachRecord : Form → Beside → Records → List AllCells → Type 0
TellsEachRecord form beside records rows =
    (place : ℕ) → place < length rows → is_past (limit_of form) (place + 1) ≡ false
    → filter (λ (told : Told). told.number == place + 1) (told_from form beside records [] 1 rows)
    ≡ told_of (entry_at form records (place + 1) (slice_index_or rows place [])) (marks_of (width_of form) beside (keys_behind form records [] 1 (take place rows)) (entry_at form records (place + 1) (slice_index_or rows place [])))
