-- Where the records of tables stand.
use Rattle.std.specs.Prelude.{ℕ, List, slice_index, Option, Some, None}
use Rattle.std.specs.List.{slice_get}
use Rattle.mrp_rows.specs.declared.fault.Table.{Table}
use Rattle.mrp_rows.specs.Tables.{table_index}
use Rattle.mrp_warn.specs.declared.sheets.Sheet.{Sheet}

-- the sheet of a table, where sheets are in the order of the tables
abbrev pub sheet_of : List Sheet → Table → Option Sheet
sheet_of sheets table = slice_get sheets (table_index table)

-- the table whose file it is in; its own, where no sheet is known
abbrev pub file_in : Option Sheet → Table → Table
file_in None table = table
file_in (Some sheet) table = sheet.file

abbrev pub file_of : List Sheet → Table → Table
file_of sheets table = file_in (sheet_of sheets table) table

-- the line of the record at a place; 0, where it is not known
abbrev pub line_in : Option Sheet → ℕ → ℕ
line_in None place = 0
line_in (Some sheet) place = slice_index sheet.lines.items place

abbrev pub line_of : List Sheet → Table → ℕ → ℕ
line_of sheets table place = line_in (sheet_of sheets table) place
