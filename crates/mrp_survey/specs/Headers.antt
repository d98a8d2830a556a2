-- The columns of a table, its header, and how many records it may have (profile).
use Rattle.std.specs.Prelude.{ℕ, ◌+◌, ◌==◌, ◌&&◌, Bool, if◌then◌else◌, List, [], ◌∷◌, length, map, nat_eq, Option, Some, None}
use Rattle.std.specs.Char.{to_ascii_lowercase}
use Rattle.std.specs.Cmp.Lexicographic.{pointwise}
use Rattle.mrp_rows.specs.Columns.{columns_of}
use Rattle.mrp_rows.specs.Shown.{shown_of}
use Rattle.mrp_rows.specs.declared.fault.Table.{Table}
use Rattle.mrp_rows.specs.declared.fault.Table.TheVariants as t
use Rattle.mrp_tables.specs.declared.limits.TheConstants as limits
use Rattle.mrp_tables.specs.declared.version.Version.{Version}
use Rattle.mrp_tables.specs.Limits.{record_limit}
use Rattle.mrp_tables.specs.Versions.{item_columns}
use Rattle.mrp_survey.specs.declared.form.Form.{Form}
use Rattle.mrp_survey.specs.declared.header.TheConstants.{HEADER_CELLS}
use Rattle.mrp_survey.specs.Forms.{AllCells, Row}
use Rattle.mrp_survey.specs.Known.{trimmed}

-- the names of a table's columns in a version, in order
abbrev pub table_columns : Version → Table → List (List ℕ)
table_columns version t.Calendar = columns_of t.Calendar
table_columns version t.Items = item_columns version
table_columns version t.Centres = columns_of t.Centres
table_columns version t.Stock = columns_of t.Stock
table_columns version t.Receipts = columns_of t.Receipts
table_columns version t.Bills = columns_of t.Bills
table_columns version t.Routings = columns_of t.Routings
table_columns version t.Master = columns_of t.Master
table_columns version t.Script = columns_of t.Script
table_columns version t.Bundle = columns_of t.Bundle

-- the names of a table's columns, in order
abbrev pub columns_in : Form → List (List ℕ)
columns_in form = table_columns form.version form.table

abbrev pub table_limit : Bool → Table → Option ℕ
table_limit has_version t.Calendar = Some (limits.MOST_CALENDAR_RECORDS + (if has_version then 1 else 0))
table_limit has_version t.Items = record_limit t.Items
table_limit has_version t.Centres = record_limit t.Centres
table_limit has_version t.Stock = record_limit t.Stock
table_limit has_version t.Receipts = record_limit t.Receipts
table_limit has_version t.Bills = record_limit t.Bills
table_limit has_version t.Routings = record_limit t.Routings
table_limit has_version t.Master = record_limit t.Master
table_limit has_version t.Script = record_limit t.Script
table_limit has_version t.Bundle = record_limit t.Bundle

-- the most records of a table, if it has a limit; a version adds one to the calendar's
abbrev pub limit_of : Form → Option ℕ
limit_of form = table_limit form.has_version form.table

-- of a header as many cells are kept as a spreadsheet has columns
abbrev pub header_shown : AllCells → Row
header_shown cells = shown_of HEADER_CELLS cells

-- a record's cells are these names
abbrev pub are_columns : Row → List (List ℕ) → Bool
are_columns row names = (row.count == length names) && pointwise (pointwise nat_eq) row.first names

-- a record is the table's header: its cells are the names of the columns
abbrev pub is_header : Form → Row → Bool
is_header form row = are_columns row (columns_in form)

-- a cell is a name, but for capitals and spaces at its ends
abbrev pub is_like : List ℕ → List ℕ → Bool
is_like cell name = pointwise nat_eq (map to_ascii_lowercase (trimmed cell)) (map to_ascii_lowercase name)

-- a record's cells are these names, but for capitals and spaces at their ends
abbrev pub are_like_columns : Row → List (List ℕ) → Bool
are_like_columns row names = (row.count == length names) && pointwise is_like row.first names

-- the records below a header can be read
abbrev pub can_be_read : Form → Row → Bool
can_be_read form header = are_like_columns header (columns_in form)

-- the first record
abbrev pub header_of : List AllCells → Option AllCells
header_of [] = None
header_of (header ∷ rows) = Some header
