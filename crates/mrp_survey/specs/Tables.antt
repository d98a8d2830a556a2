-- What is told of a table (profile).
use Rattle.std.specs.Prelude.{ℕ, ◌+◌, ◌==◌, if◌then◌else◌, List, [], ◌∷◌, ◌++◌, length, Option, Some, None, option_map}
use Rattle.mrp_rows.specs.Shown.{Shown, nothing_shown, shown_of}
use Rattle.mrp_tables.specs.declared.item.Class.{Class}
use Rattle.mrp_tables.specs.Items.{class_at}
use Rattle.mrp_tables.specs.Reading.{is_past}
use Rattle.mrp_survey.specs.declared.finding.What.TheVariants as what
use Rattle.mrp_survey.specs.declared.form.Form.{Form}
use Rattle.mrp_survey.specs.declared.rule.Beside.{Beside}
use Rattle.mrp_survey.specs.Entry.{Entry}
use Rattle.mrp_survey.specs.Entries.{word_in}
use Rattle.mrp_survey.specs.Finding.{Told}
use Rattle.mrp_survey.specs.Forms.{AllCells, cell_in}
use Rattle.mrp_survey.specs.Headers.{columns_in, header_of, header_shown, is_header, limit_of}
use Rattle.mrp_survey.specs.Keys.{Keys}
use Rattle.mrp_survey.specs.Known.{known_name}
use Rattle.mrp_survey.specs.Marks.{keys_after, marks_of, told_of}
use Rattle.mrp_survey.specs.Names.{Names, with_name}
use Rattle.mrp_survey.specs.Records.{Records, place_of}
use Rattle.mrp_survey.specs.Told.{told}

-- how many columns a table has
abbrev pub width_of : Form → ℕ
width_of form = length (columns_in form)

-- of a record as many cells are kept as its table has columns
abbrev pub row_shown : Form → AllCells → Shown
row_shown form cells = shown_of (width_of form) cells

-- a record of this number, with its place
abbrev pub entry_at : Form → Records → ℕ → AllCells → Entry
entry_at form records number cells = record { form = form; place = place_of records form.table number; row = row_shown form cells }

-- a table without a header, told in the first line
abbrev pub empty_told : Form → Records → List Told
empty_told form records = told (record { file = records.file; table = form.table; number = 0; line = 1 }) nothing_shown 0 (what.Header records.front) ∷ []

-- a header that is wrong, or is not there
abbrev pub wrong_header : Form → Records → Option AllCells → List Told
wrong_header form records (Some header) =
    if is_header form (header_shown header) then [] else told (place_of records form.table 0) (header_shown header) 0 (what.Header records.front) ∷ []
wrong_header form records None = empty_told form records

abbrev pub header_told : Form → Records → List Told
header_told form records = wrong_header form records (header_of records.rows)

-- what is wrong with the remaining records, after these keys of earlier ones, up to the first past the limit
unfoldable pub told_from : Form → Beside → Records → Keys → ℕ → List AllCells → List Told
told_from form beside records seen number [] = []
told_from form beside records seen number (row ∷ rows) =
    if is_past (limit_of form) number then told (place_of records form.table number) (row_shown form row) 0 what.TooMany ∷ []
    else told_of (entry_at form records number row) (marks_of (width_of form) beside seen (entry_at form records number row))
    ++ told_from form beside records (keys_after (width_of form) seen (entry_at form records number row)) (number + 1) rows

-- the class of a word's place
abbrev pub class_of_word : Option ℕ → Option Class
class_of_word word = option_map class_at word

-- the class that an item's record gives it
abbrev pub class_in : ℕ → Entry → Option Class
class_in width entry = if entry.row.count == width then class_of_word (word_in entry 1) else None

abbrev pub with_own_name : Names → Option (List ℕ) → Option Class → Names
with_own_name names (Some name) class = with_name names name class
with_own_name names None class = names

-- with the name that a record's first cell counts as
abbrev pub names_after : ℕ → Names → Entry → Names
names_after width names entry = with_own_name names (known_name (cell_in entry.row 0)) (class_in width entry)

-- with the names of the remaining records
unfoldable pub names_from : Form → Records → Names → ℕ → List AllCells → Names
names_from form records names number [] = names
names_from form records names number (row ∷ rows) =
    names_from form records (names_after (width_of form) names (entry_at form records number row)) (number + 1) rows

-- the names of a table's records; none if it has too many records
abbrev pub names_in : Form → Records → List AllCells → Option Names
names_in form records rows = if is_past (limit_of form) (length rows) then None else Some (names_from form records [] 1 rows)
