-- The line of each fault (profile).
use Rattle.std.specs.Prelude.{ℕ, ◌==◌, ◌&&◌, ◌-◌, if◌then◌else◌, unwrap_or, Bool, true, false, List, [], ◌∷◌, ◌++◌, codes, decimal, length, map, not, slice_get, Option, Some, None, option_and_then}
use Rattle.mrp_rows.specs.FaultText.{table_name}
use Rattle.mrp_rows.specs.Name.{name_in}
use Rattle.mrp_rows.specs.Tables.{table_index}
use Rattle.mrp_tables.specs.declared.version.Version.{Version}
use Rattle.mrp_tables.specs.declared.version.Version.TheVariants.{One}
use Rattle.mrp_survey.specs.declared.finding.What.{What}
use Rattle.mrp_survey.specs.declared.finding.What.TheVariants as what
use Rattle.mrp_survey.specs.Finding.{Told}
use Rattle.mrp_survey.specs.Forms.{cell_in}
use Rattle.mrp_survey.specs.Headers.{table_columns}
use Rattle.mrp_survey.specs.Likes.{like_among}
use Rattle.mrp_survey.specs.Names.{Names}
use Rattle.mrp_survey.specs.Surveyed.{Surveyed}
use Rattle.mrp_advice.specs.Expected.{kind_words}
use Rattle.mrp_advice.specs.Headers.{column_at, header_words}
use Rattle.mrp_advice.specs.Loops.{loop_line}
use Rattle.mrp_advice.specs.Reasons.{cell_words}
use Rattle.mrp_advice.specs.Records.{at_most_words, blank_words, columns_words, missing_words, row_words, too_many_words, wanted_words}
use Rattle.mrp_advice.specs.Rules.{once_words, outside_told, repeated_words, unknown_words, within_told}
use Rattle.mrp_advice.specs.Texts.{listed, of_cell}

-- the version of the tables; where it is wrong, no table is read that it says something of
abbrev pub version_of : Surveyed → Version
version_of survey = unwrap_or survey.version One

abbrev pub columns_of : Surveyed → Told → List (List ℕ)
columns_of survey f = table_columns (version_of survey) f.table

-- the cell that a fault is of
abbrev pub cell_of : Told → List ℕ
cell_of f = cell_in f.cells f.column

-- the known name that differs from a cell's in capitals alone
abbrev pub like_of : Option Names → List ℕ → Option (List ℕ)
like_of names cell = option_and_then (like_among names) (name_in cell)

-- the column that a fault is told of, or what stands for it
abbrev pub column_words : List (List ℕ) → Told → What → List ℕ
column_words columns f (what.Header front) = codes "header"
column_words columns f what.Blank = codes "row"
column_words columns f (what.Columns count) = codes "row"
column_words columns f (what.Cell kind code) = column_at columns f.column
column_words columns f (what.Repeated line) = column_at columns f.column
column_words columns f what.UnknownItem = column_at columns f.column
column_words columns f what.UnknownCentre = column_at columns f.column
column_words columns f what.DateOutside = column_at columns f.column
column_words columns f what.NotMaster = column_at columns f.column
column_words columns f what.MasterSafety = column_at columns f.column
column_words columns f what.MasterReceipt = column_at columns f.column
column_words columns f what.MasterComponent = column_at columns f.column
column_words columns f what.ServiceMaster = column_at columns f.column
column_words columns f what.TooMany = codes "row"
column_words columns f (what.Missing key) = codes "row"

-- what is wrong; the last record of a run of empty cells begins in this line
abbrev pub what_words : Surveyed → Told → ℕ → What → List ℕ
what_words survey f last (what.Header front) = header_words f.table (columns_of survey f) f.cells front
what_words survey f last what.Blank = blank_words f.line last
what_words survey f last (what.Columns count) = columns_words (length (columns_of survey f)) f.cells
what_words survey f last (what.Cell kind code) = cell_words kind code (cell_of f)
what_words survey f last (what.Repeated line) = repeated_words f.table f.cells f.column line
what_words survey f last what.UnknownItem = unknown_words (cell_of f) (codes " is not in items.csv") (like_of survey.items (cell_of f))
what_words survey f last what.UnknownCentre = unknown_words (cell_of f) (codes " is not in centres.csv") (like_of survey.centres (cell_of f))
what_words survey f last what.DateOutside = outside_told survey.calendar (cell_of f)
what_words survey f last what.NotMaster = of_cell (cell_of f) (codes " is a part")
what_words survey f last what.MasterSafety = of_cell (cell_of f) (codes " is safety stock of a master item")
what_words survey f last what.MasterReceipt = of_cell (cell_of f) (codes " is a master item")
what_words survey f last what.MasterComponent = of_cell (cell_of f) (codes " is a master item")
what_words survey f last what.ServiceMaster = of_cell (cell_of f) (codes " is a master item")
what_words survey f last what.TooMany = too_many_words f.number
what_words survey f last (what.Missing key) = missing_words key

-- what is expected
abbrev pub expected_words : Surveyed → Told → What → List ℕ
expected_words survey f (what.Header front) = listed (codes ",") (columns_of survey f)
expected_words survey f what.Blank = codes "no such row"
expected_words survey f (what.Columns count) = wanted_words (length (columns_of survey f))
expected_words survey f (what.Cell kind code) = kind_words (version_of survey) f.table f.column kind (cell_of f)
expected_words survey f (what.Repeated line) = once_words f.table
expected_words survey f what.UnknownItem = codes "an item"
expected_words survey f what.UnknownCentre = codes "a centre"
expected_words survey f what.DateOutside = within_told f.table survey.calendar (cell_of f)
expected_words survey f what.NotMaster = codes "a master item"
expected_words survey f what.MasterSafety = codes "0"
expected_words survey f what.MasterReceipt = codes "a part"
expected_words survey f what.MasterComponent = codes "a part"
expected_words survey f what.ServiceMaster = codes "a part"
expected_words survey f what.TooMany = at_most_words f.number
expected_words survey f (what.Missing key) = row_words key

-- where a fault is: the file, the line and the column
abbrev pub place_words : Surveyed → Told → List ℕ
place_words survey f = table_name f.file ++ (codes ".csv:" ++ (decimal f.line ++ (codes ": " ++ (column_words (columns_of survey f) f f.what ++ codes ": "))))

-- the line of a fault, without a line end; the last record of a run of empty cells begins in this line of the file
abbrev pub fault_line : Surveyed → Told → ℕ → List ℕ
fault_line survey f last = place_words survey f ++ (what_words survey f last f.what ++ (codes "; expected " ++ expected_words survey f f.what))

abbrev pub is_blank : What → Bool
is_blank (what.Header front) = false
is_blank what.Blank = true
is_blank (what.Columns count) = false
is_blank (what.Cell kind code) = false
is_blank (what.Repeated line) = false
is_blank what.UnknownItem = false
is_blank what.UnknownCentre = false
is_blank what.DateOutside = false
is_blank what.NotMaster = false
is_blank what.MasterSafety = false
is_blank what.MasterReceipt = false
is_blank what.MasterComponent = false
is_blank what.ServiceMaster = false
is_blank what.TooMany = false
is_blank (what.Missing key) = false

-- records of empty cells alone that stand one behind the other in a table
abbrev pub follows : Told → Told → Bool
follows last next = (is_blank last.what && is_blank next.what) && ((table_index last.table == table_index next.table) && (next.number - 1 == last.number))

-- a fault, and the line of the last record of its run
abbrev pub Run : Type 0
Run = Told × ℕ

-- the runs of the faults behind a run that goes on
unfoldable pub runs_after : Told → Told → List Told → List Run
runs_after first last [] = (first, last.line) ∷ []
runs_after first last (next ∷ others) =
    if follows last next then runs_after first next others else (first, last.line) ∷ runs_after next next others

-- faults, of which records of empty cells alone that stand one behind the other are one
abbrev pub runs_of : List Told → List Run
runs_of [] = []
runs_of (first ∷ others) = runs_after first first others

abbrev pub run_line : Surveyed → Run → List ℕ
run_line survey run = fault_line survey run.0 run.1

-- a line for each of these faults
abbrev pub run_lines : Surveyed → List Told → List (List ℕ)
run_lines survey faults = map (run_line survey) (runs_of faults)

abbrev pub fault_lines : Surveyed → List (List ℕ)
fault_lines survey = run_lines survey survey.findings

-- the next fault, if there is one, does not go on with the last
abbrev pub is_apart : Option Told → Option Told → Bool
is_apart (Some last) (Some next) = not (follows last next)
is_apart (Some last) None = false
is_apart None next = false

-- there are faults and others behind them, and the first of these does not go on with the last of them
abbrev pub are_apart : List Told → List Told → Bool
are_apart front back = is_apart (slice_get front (length front - 1)) (slice_get back 0)

-- a line for each fault, and then one for each set of items that need one another
abbrev pub survey_lines : Surveyed → List (List ℕ)
survey_lines survey = fault_lines survey ++ map loop_line survey.loops
