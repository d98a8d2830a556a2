-- The script: the calls of the desks, in order (profile).
use Rattle.std.specs.Prelude.{ℕ, ◌==◌, if◌then◌else◌, List, Result, Ok, Err}
use Rattle.mrp_qty.specs.Reading.{◌>>=◌}
use Rattle.jiff.specs.Types.{Date}
use Rattle.mrp_cal.specs.Calendar.{ShopCalendar, week_of}
use Rattle.mrp_rows.specs.declared.fault.Fault.{Fault}
use Rattle.mrp_rows.specs.declared.faults.TheConstants as faults
use Rattle.mrp_rows.specs.Left.{Cells}
use Rattle.mrp_rows.specs.Cell.{cell_at, blame, or_code, name_of, number_cell, word_of, date_cell}
use Rattle.mrp_tables.specs.declared.limits.TheConstants as limits
use Rattle.mrp_tables.specs.declared.item.Item.{Item}
use Rattle.mrp_tables.specs.declared.rows.ScriptCall.{ScriptCall}
use Rattle.mrp_tables.specs.declared.rows.ScriptCall.TheVariants as call
use Rattle.mrp_tables.specs.declared.rows.ScriptRow.{ScriptRow}
use Rattle.mrp_tables.specs.Items.{known, is_master_at}
use Rattle.mrp_tables.specs.Limits.{call_words}

-- the place of a master item, or NOT_MASTER
abbrev pub mastered : List Item → ℕ → Result ℕ ℕ
mastered items item = if is_master_at items item then Ok item else Err faults.NOT_MASTER

-- the master item of a name and the week of a date: an item that exists, a week of the horizon, and a master item
unfoldable pub spot_of : ShopCalendar → List Item → Cells → List ℕ → Date → Result (ℕ × ℕ) Fault
spot_of calendar items r name date = do
  item ← blame r (known items name)
  week ← blame r (or_code faults.DATE_OUTSIDE (week_of calendar date))
  master ← blame r (mastered items item)
  Ok (master, week)

-- a booking reads the cells of item, date and quantity
unfoldable pub book_cells : ShopCalendar → List Item → Cells → Result ScriptCall Fault
book_cells calendar items r = do
  name ← blame r (name_of (cell_at r 2))
  date ← blame r (date_cell (cell_at r 3))
  quantity ← blame r (number_cell 1 limits.MOST_PIECES (cell_at r 4))
  spot ← spot_of calendar items r name date
  Ok (call.Book spot.0 spot.1 quantity)

-- a cancellation reads the cell of the entry's number
unfoldable pub cancel_cells : Cells → Result ScriptCall Fault
cancel_cells r = do
  entry ← blame r (number_cell 1 limits.MOST_ENTRIES (cell_at r 5))
  Ok (call.Cancel entry)

-- a question for what is available to promise reads the cells of item and date
unfoldable pub ask_cells : ShopCalendar → List Item → Cells → Result ScriptCall Fault
ask_cells calendar items r = do
  name ← blame r (name_of (cell_at r 2))
  date ← blame r (date_cell (cell_at r 3))
  spot ← spot_of calendar items r name date
  Ok (call.Ask spot.0 spot.1)

-- a question for the first week reads the cells of item and quantity
unfoldable pub when_cells : List Item → Cells → Result ScriptCall Fault
when_cells items r = do
  name ← blame r (name_of (cell_at r 2))
  quantity ← blame r (number_cell 1 limits.MOST_PIECES (cell_at r 4))
  item ← blame r (known items name)
  master ← blame r (mastered items item)
  Ok (call.When master quantity)

-- the call of a word's place: it reads the cells that it uses, and no others
abbrev pub call_at : ShopCalendar → List Item → Cells → ℕ → Result ScriptCall Fault
call_at calendar items r place =
    if place == 0 then book_cells calendar items r
    else if place == 1 then cancel_cells r
    else if place == 2 then ask_cells calendar items r
    else if place == 3 then when_cells items r
    else Ok call.Run

-- the desk, the word of the call, and then the call's own cells from left to right and what they name
unfoldable pub script_row : ShopCalendar → List Item → Cells → Result ScriptRow Fault
script_row calendar items r = do
  desk ← blame r (number_cell 1 limits.MOST_DESKS (cell_at r 0))
  place ← blame r (word_of call_words (cell_at r 1))
  own ← call_at calendar items r place
  Ok (record { desk = desk; call = own })
