-- What a record's cells are read as, with the code of what is wrong (profile).
use Rattle.std.specs.Prelude.{ℕ, nat_le, nat_eq, if◌then◌else◌, List, [], Option, Some, None, Result, Ok, Err, slice_index_or, position}
use Rattle.std.specs.Cmp.Lexicographic.{pointwise}
use Rattle.jiff.specs.Types.{Date}
use Rattle.mrp_cal.specs.DateText.{date_of}
use Rattle.mrp_qty.specs.Digits.{number_of}
use Rattle.mrp_qty.specs.declared.number.NumberFault.{NumberFault}
use Rattle.mrp_qty.specs.declared.number.NumberFault.TheVariants.{Empty, NotDigits, TooLarge}
use Rattle.mrp_rows.specs.declared.fault.Fault.{Fault}
use Rattle.mrp_rows.specs.declared.faults.TheConstants as faults
use Rattle.mrp_rows.specs.Left.{Cells}
use Rattle.mrp_rows.specs.Name.{name_in}

-- a record's cell in a column, counted from 0
abbrev pub cell_at : Cells → ℕ → List ℕ
cell_at r column = slice_index_or r.cells column []

-- a record's refusal with this code
abbrev pub fault_at : Cells → ℕ → Fault
fault_at r code = record { code = code; table = r.table; row = r.number }

-- what a cell is read as; a fault names the record
abbrev pub blame : {X : Type 0} → Cells → Result X ℕ → Result X Fault
blame r (Ok x) = Ok x
blame r (Err code) = Err (fault_at r code)

-- a value if there is one, or this code
abbrev pub or_code : {X : Type 0} → ℕ → Option X → Result X ℕ
or_code code (Some x) = Ok x
or_code code None = Err code

-- a name, or NAME
abbrev pub name_of : List ℕ → Result (List ℕ) ℕ
name_of cell = or_code faults.NAME (name_in cell)

-- a number that is at least this: RANGE if it is less, or too large; NUMBER if there is none
abbrev pub at_least : ℕ → Result ℕ NumberFault → Result ℕ ℕ
at_least least (Ok n) = if nat_le least n then Ok n else Err faults.RANGE
at_least least (Err TooLarge) = Err faults.RANGE
at_least least (Err Empty) = Err faults.NUMBER
at_least least (Err NotDigits) = Err faults.NUMBER

-- a number within limits, or NUMBER if the cell is empty or has a byte that is not a digit, or RANGE outside the limits
abbrev pub number_cell : ℕ → ℕ → List ℕ → Result ℕ ℕ
number_cell least most cell = at_least least (number_of most cell)

-- a date, or DATE
abbrev pub date_cell : List ℕ → Result Date ℕ
date_cell cell = or_code faults.DATE (date_of cell)

-- the place of a cell among words, from 0, or WORD
abbrev pub word_of : List (List ℕ) → List ℕ → Result ℕ ℕ
word_of words cell = or_code faults.WORD (position (pointwise nat_eq cell) words)
