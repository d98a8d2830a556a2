-- Where the records of tables stand whose texts are known (profile).
use Rattle.std.specs.Prelude.{ℕ, ◌≡◌, List, [], drop, map, Option, Some, None}
use Rattle.std.specs.List.{slice_index_or}
use Rattle.mrp_rows.specs.Tables.{table_index}
use Rattle.mrp_rows.specs.declared.fault.Table.{Table}
use Rattle.mrp_survey.specs.declared.source.Source.{Source}
use Rattle.mrp_survey.specs.Lines.{record_lines}
use Rattle.mrp_warn.specs.declared.sheets.Sheet.{Sheet}
use Rattle.mrp_words.specs.Folder.{all_tables}

-- a file, and lines of it
abbrev pub Lines : Type 0
Lines = Table × List ℕ

-- in which file a table stands, and in which line each of its records, but for the header, begins
abbrev pub lines_in : Table → Option Source → Lines
lines_in table (Some source) = (source.file, drop 1 (record_lines source.line source.text.now))
lines_in table None = (table, [])

abbrev pub lines_at : List (Option Source) → Table → Lines
lines_at sources table = lines_in table (slice_index_or sources (table_index table) None)

abbrev pub sheet_lines : Sheet → Lines
sheet_lines sheet = (sheet.file, sheet.lines.items)

-- the sheets of the tables, in the order of the tables
abbrev pub AreSheets : List (Option Source) → List Sheet → Type 0
AreSheets sources sheets = map sheet_lines sheets ≡ map (lines_at sources) all_tables
