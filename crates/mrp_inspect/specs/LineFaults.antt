-- The fault that a line tells, as `mrp plan` would: its number, its table and its record (profile).
use Rattle.std.specs.Prelude.{ℕ, ◌+◌, ◌==◌, ◌&&◌, if◌then◌else◌, Bool, length, slice_get, Option, Some, None, option_and_then}
use Rattle.mrp_rows.specs.declared.fault.Fault.{Fault}
use Rattle.mrp_rows.specs.declared.fault.Table.{Table}
use Rattle.mrp_rows.specs.declared.fault.Table.TheVariants as t
use Rattle.mrp_rows.specs.declared.faults.TheConstants as faults
use Rattle.mrp_survey.specs.declared.finding.What.{What}
use Rattle.mrp_survey.specs.declared.finding.What.TheVariants as what
use Rattle.mrp_survey.specs.Finding.{Told}
use Rattle.mrp_survey.specs.Headers.{table_columns}
use Rattle.mrp_survey.specs.Names.{place_among}
use Rattle.mrp_survey.specs.Surveyed.{LoopTold, Surveyed}
use Rattle.mrp_advice.specs.Lines.{version_of}
use Rattle.mrp_inspect.specs.Pieces.{same_table}
use Rattle.mrp_inspect.specs.declared.stray.Reason.{Reason}
use Rattle.mrp_inspect.specs.declared.stray.Reason.TheVariants.{Again, NoTable, OfFile}

-- a fault of a table as a whole
abbrev pub table_fault : ℕ → Table → Fault
table_fault code table = record { code = code; table = table; row = 0 }

-- of a line that begins with a bracket: where it names no table, the count of section lines up to it stands for the record
abbrev pub stray_fault : Reason → Fault
stray_fault (NoTable place) = record { code = faults.UNKNOWN_SECTION; table = t.Bundle; row = place + 1 }
stray_fault (OfFile table) = table_fault faults.SECTION_TWICE table
stray_fault (Again table file line) = table_fault faults.SECTION_TWICE table

-- of a table that is not there
abbrev pub missing_fault : Table → Fault
missing_fault table = table_fault faults.MISSING_SECTION table

-- the fault of an empty cell in a table's first column
abbrev pub empty_code : Table → ℕ
empty_code t.Calendar = faults.WORD
empty_code t.Items = faults.NAME
empty_code t.Centres = faults.NAME
empty_code t.Stock = faults.NAME
empty_code t.Receipts = faults.NAME
empty_code t.Bills = faults.NAME
empty_code t.Routings = faults.NAME
empty_code t.Master = faults.NAME
empty_code t.Script = faults.NUMBER
empty_code t.Bundle = faults.NAME

-- of a record of empty cells alone, in a table of so many columns
abbrev pub blank_code : ℕ → Told → ℕ
blank_code width f = if f.cells.count == width then empty_code f.table else faults.COLUMNS

abbrev pub code_of : ℕ → Told → What → ℕ
code_of width f (what.Header front) = faults.HEADER
code_of width f what.Blank = blank_code width f
code_of width f (what.Columns count) = faults.COLUMNS
code_of width f (what.Cell kind code) = code
code_of width f (what.Repeated line) = faults.REPEATED
code_of width f what.UnknownItem = faults.UNKNOWN_ITEM
code_of width f what.UnknownCentre = faults.UNKNOWN_CENTRE
code_of width f what.DateOutside = faults.DATE_OUTSIDE
code_of width f what.NotMaster = faults.NOT_MASTER
code_of width f what.MasterSafety = faults.MASTER_SAFETY
code_of width f what.MasterReceipt = faults.MASTER_RECEIPT
code_of width f what.MasterComponent = faults.MASTER_COMPONENT
code_of width f what.ServiceMaster = faults.SERVICE_MASTER
code_of width f what.TooMany = faults.TOO_MANY
code_of width f (what.Missing key) = faults.COLUMNS

-- how many columns a table has
abbrev pub width_of : Surveyed → Table → ℕ
width_of survey table = length (table_columns (version_of survey) table)

-- of a record
abbrev pub finding_fault : Surveyed → Told → Fault
finding_fault survey f = record { code = code_of (width_of survey f.table) f f.what; table = f.table; row = f.number }

-- the number of the record at a place from 0
abbrev pub row_at : Option ℕ → ℕ
row_at (Some place) = place + 1
row_at None = 0

-- the place of the first of items that need one another, among the known ones
abbrev pub first_place : Surveyed → LoopTold → Option ℕ
first_place survey l = option_and_then (λ name. option_and_then (λ names. place_among names name) survey.items) (slice_get l.names 0)

-- of items that need one another: that of the first of them
abbrev pub way_fault : Surveyed → LoopTold → Fault
way_fault survey l = record { code = faults.LOOP; table = t.Items; row = row_at (first_place survey l) }

-- two faults are of one number, one table and one record
abbrev pub same_fault : Fault → Fault → Bool
same_fault a b = ((a.code == b.code) && same_table a.table b.table) && (a.row == b.row)
