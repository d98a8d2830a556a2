-- What the calendar's records say, where they are right (profile).
use Rattle.std.specs.Prelude.{ℕ, ◌==◌, ◌&&◌, ◌+◌, ◌-◌, Bool, true, false, if◌then◌else◌, nat_eq, is_none, List, [], ◌∷◌, codes, replicate, slice_index_or, Option, Some, None, option_and_then, option_map}
use Rattle.std.specs.Result.{result_ok}
use Rattle.std.specs.Cmp.Lexicographic.{pointwise}
use Rattle.jiff.specs.Types.{Date}
use Rattle.mrp_cal.specs.Calendar.{ShopCalendar, calendar_of}
use Rattle.mrp_cal.specs.declared.calendar.TheConstants.{MOST_WEEKS}
use Rattle.mrp_rows.specs.Cell.{number_cell}
use Rattle.mrp_rows.specs.Shown.{nothing_shown}
use Rattle.mrp_tables.specs.declared.version.TheConstants.{MOST_VERSION}
use Rattle.mrp_tables.specs.declared.version.Version.{Version}
use Rattle.mrp_tables.specs.declared.version.Version.TheVariants.{One}
use Rattle.mrp_tables.specs.Versions.{version_of}
use Rattle.mrp_survey.specs.declared.form.Form.{Form}
use Rattle.mrp_survey.specs.Forms.{Row, cell_in, kind_of}
use Rattle.mrp_survey.specs.Kinds.{monday_cell, wrong}

-- a calendar's first record has the key of a version
abbrev pub has_version : List Row → Bool
has_version [] = false
has_version (row ∷ rows) = pointwise nat_eq (cell_in row 0) (codes "version")

-- the start's record: the first, or the one behind a version
abbrev pub start_number : Form → ℕ
start_number form = if form.has_version then 2 else 1

-- the value's cell of a record, if it has the right key
abbrev pub value_cell : Form → ℕ → Row → Option (List ℕ)
value_cell form number row = if (row.count == 2) && is_none (wrong (kind_of form number row 0) (cell_in row 0)) then Some (cell_in row 1) else None

abbrev pub cell_with_key : Form → List Row → ℕ → Option (List ℕ)
cell_with_key form rows number = value_cell form number (slice_index_or rows (number - 1) nothing_shown)

-- the start of the horizon, a Monday
abbrev pub start_in : Form → List Row → Option Date
start_in form rows = option_and_then (λ cell. result_ok (monday_cell cell)) (cell_with_key form rows (start_number form))

-- the weeks of the horizon
abbrev pub weeks_in : Form → List Row → Option ℕ
weeks_in form rows = option_and_then (λ cell. result_ok (number_cell 1 MOST_WEEKS cell)) (cell_with_key form rows (start_number form + 1))

-- the calendar of a start and weeks, each day of it a workday
abbrev pub bare_calendar : Date → ℕ → Option ShopCalendar
bare_calendar start weeks = result_ok (calendar_of start weeks (replicate 7 true) [])

-- the same, if both are right
abbrev pub calendar_in : Form → List Row → Option ShopCalendar
calendar_in form rows = option_and_then (λ start. option_and_then (bare_calendar start) (weeks_in form rows)) (start_in form rows)

-- the version, if it is right; the first, where there is none
abbrev pub version_in : Form → List Row → Option Version
version_in form rows =
    if form.has_version then option_map version_of (option_and_then (λ cell. result_ok (number_cell 1 MOST_VERSION cell)) (cell_with_key form rows 1)) else Some One
