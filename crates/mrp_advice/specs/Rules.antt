-- What is said of a record beside others (profile).
use Rattle.std.specs.Prelude.{ℕ, if◌then◌else◌, List, [], ◌++◌, codes, decimal, Bool, Option, Some, None}
use Rattle.jiff.specs.Words.{date_text}
use Rattle.mrp_cal.specs.Calendar.{ShopCalendar}
use Rattle.mrp_cal.specs.DateText.{date_of}
use Rattle.mrp_rows.specs.declared.fault.Table.{Table}
use Rattle.mrp_rows.specs.declared.fault.Table.TheVariants as t
use Rattle.mrp_survey.specs.Forms.{Row, cell_in}
use Rattle.mrp_advice.specs.Dates.{is_before, last_day}
use Rattle.mrp_advice.specs.Shown.{shown}
use Rattle.mrp_advice.specs.Texts.{of_cell}

-- a cell of an item
abbrev pub of_item : Row → ℕ → List ℕ
of_item row column = shown (cell_in row column) ++ (codes " of " ++ shown (cell_in row 0))

-- what a record has to itself: an item's order or operation is named with its item
abbrev pub own_words : Table → Row → ℕ → List ℕ
own_words t.Calendar row column = shown (cell_in row column)
own_words t.Items row column = shown (cell_in row column)
own_words t.Centres row column = shown (cell_in row column)
own_words t.Stock row column = shown (cell_in row column)
own_words t.Receipts row column = of_item row column
own_words t.Bills row column = shown (cell_in row column)
own_words t.Routings row column = of_item row column
own_words t.Master row column = shown (cell_in row column)
own_words t.Script row column = shown (cell_in row column)
own_words t.Bundle row column = shown (cell_in row column)

-- an earlier record, in this line, has it
abbrev pub repeated_words : Table → Row → ℕ → ℕ → List ℕ
repeated_words table row column line = own_words table row column ++ (codes " stands in line " ++ (decimal line ++ codes " already"))

abbrev pub once_words : Table → List ℕ
once_words t.Calendar = codes "each row once"
once_words t.Items = codes "each item once"
once_words t.Centres = codes "each centre once"
once_words t.Stock = codes "each item once"
once_words t.Receipts = codes "each order of an item once"
once_words t.Bills = codes "each row once"
once_words t.Routings = codes "each operation of an item once"
once_words t.Master = codes "each row once"
once_words t.Script = codes "each row once"
once_words t.Bundle = codes "each row once"

-- a name that differs in capitals alone, if there is one
abbrev pub like_words : Option (List ℕ) → List ℕ
like_words (Some name) = codes ", but " ++ (shown name ++ codes " is")
like_words None = []

-- a file has no such name
abbrev pub unknown_words : List ℕ → List ℕ → Option (List ℕ) → List ℕ
unknown_words cell absent like = shown cell ++ (absent ++ like_words like)

-- where a date is that is outside the horizon
abbrev pub side : Bool → List ℕ
side before = if before then codes " is before the horizon" else codes " is behind the horizon"

abbrev pub outside_words : ShopCalendar → List ℕ → List ℕ
outside_words c cell = of_cell cell (side (is_before c (date_of cell)))

-- the days of the horizon
abbrev pub range_words : ShopCalendar → List ℕ
range_words c = date_text c.start ++ (codes " to " ++ date_text (last_day c))

-- what an overdue receipt has for its date
abbrev pub overdue_words : ShopCalendar → Bool → List ℕ
overdue_words c before = if before then codes " (one that is overdue has " ++ (date_text c.start ++ codes ")") else []

abbrev pub receipt_range : ShopCalendar → List ℕ → List ℕ
receipt_range c cell = range_words c ++ overdue_words c (is_before c (date_of cell))

abbrev pub within_words : Table → ShopCalendar → List ℕ → List ℕ
within_words t.Calendar c cell = range_words c
within_words t.Items c cell = range_words c
within_words t.Centres c cell = range_words c
within_words t.Stock c cell = range_words c
within_words t.Receipts c cell = receipt_range c cell
within_words t.Bills c cell = range_words c
within_words t.Routings c cell = range_words c
within_words t.Master c cell = range_words c
within_words t.Script c cell = range_words c
within_words t.Bundle c cell = range_words c

-- the same where the horizon is known
abbrev pub outside_told : Option ShopCalendar → List ℕ → List ℕ
outside_told (Some c) cell = outside_words c cell
outside_told None cell = of_cell cell (codes " is outside the horizon")

abbrev pub within_told : Table → Option ShopCalendar → List ℕ → List ℕ
within_told table (Some c) cell = within_words table c cell
within_told table None cell = codes "a date of the horizon"
