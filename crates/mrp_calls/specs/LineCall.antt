-- What a line says: a call, or what is wrong with it (profile).
use Rattle.std.specs.Prelude.{ℕ, ◌≡◌, ◌==◌, ◌&&◌, ◌-◌, Bool, if◌then◌else◌, nat_le, nat_lt, List, length, slice_index, Option, None, Some, Result, Ok, Err}
use Rattle.mrp_qty.specs.Reading.{◌>>=◌}
use Rattle.mrp_intake.specs.declared.lines.TheConstants.{LONGEST_LINE}
use Rattle.mrp_rows.specs.declared.fault.Fault.{Fault}
use Rattle.mrp_rows.specs.declared.fault.Table.TheVariants as t
use Rattle.mrp_rows.specs.Left.{Cells}
use Rattle.mrp_rows.specs.Next.{columns_fault}
use Rattle.mrp_rows.specs.Only.{only_of}
use Rattle.mrp_rows.specs.Records.{records_of}
use Rattle.mrp_tables.specs.declared.rows.ScriptRow.{ScriptRow}
use Rattle.mrp_tables.specs.Script.{script_row}
use Rattle.mrp_tables.specs.Tables.{Tables}
use Rattle.mrp_calls.specs.declared.fault.LineFault.{LineFault}
use Rattle.mrp_calls.specs.declared.fault.LineFault.TheVariants.{NoMemory, Refused}

-- a line ends with its line feed, and is not too long
abbrev pub is_whole : List ℕ → Bool
is_whole line = nat_lt 0 (length line) && nat_le (length line) LONGEST_LINE && (slice_index line (length line - 1) == 10)

-- the record of a line, or none
abbrev pub or_columns : ℕ → Option Cells → Result Cells Fault
or_columns number None = Err (columns_fault t.Script number)
or_columns number (Some r) = Ok r

-- a line's one record, which would have this number: it has a cell for each column
abbrev pub cells_of_line : ℕ → List ℕ → Result Cells Fault
cells_of_line number line =
    if is_whole line then or_columns number (only_of t.Script number (records_of line)) else Err (columns_fault t.Script number)

-- its record and its call, or the first fault in the order of the table
abbrev pub call_of_line : Tables → ℕ → List ℕ → Result (Cells × ScriptRow) Fault
call_of_line t number line = cells_of_line number line >>= λ r. script_row t.calendar t.items r >>= λ call. Ok (r, call)

-- what was read of a line, unless it was out of memory
abbrev pub ReadsCells : ℕ → List ℕ → Result Cells LineFault → Type 0
ReadsCells number line (Ok r) = cells_of_line number line ≡ Ok r
ReadsCells number line (Err (Refused f)) = cells_of_line number line ≡ Err f
ReadsCells number line (Err NoMemory) = Unit {0}

abbrev pub ReadsLine : Tables → ℕ → List ℕ → Result (Cells × ScriptRow) LineFault → Type 0
ReadsLine t number line (Ok call) = call_of_line t number line ≡ Ok call
ReadsLine t number line (Err (Refused f)) = call_of_line t number line ≡ Err f
ReadsLine t number line (Err NoMemory) = Unit {0}
