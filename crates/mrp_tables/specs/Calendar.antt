-- The calendar's table (profile): the version, which may be left out, the start, the weeks, the workdays, and then holidays.
use Rattle.std.specs.Prelude.{ℕ, ◌≡◌, ◌+◌, ◌==◌, ◌&&◌, ◌||◌, Bool, true, if◌then◌else◌, List, [], ◌∷◌, length, map, codes, Option, Some, None, Result, Ok, Err}
use Rattle.std.specs.Int.{IsInRange}
use Rattle.std.specs.List.{list_all}
use Rattle.mrp_qty.specs.Reading.{◌>>=◌}
use Rattle.jiff.specs.Types.{Date}
use Rattle.mrp_cal.specs.Calendar.{holidays_in, has_workday, is_monday}
use Rattle.mrp_cal.specs.DateText.{IsPlanningYear}
use Rattle.mrp_cal.specs.declared.calendar.TheConstants.{MOST_WEEKS}
use Rattle.mrp_rows.specs.declared.fault.Fault.{Fault}
use Rattle.mrp_rows.specs.declared.faults.TheConstants as faults
use Rattle.mrp_rows.specs.declared.fault.Table.TheVariants as t
use Rattle.mrp_rows.specs.Left.{Cells}
use Rattle.mrp_rows.specs.Cell.{cell_at, fault_at, blame, number_cell, word_of, date_cell}
use Rattle.mrp_tables.specs.declared.calendar.CalendarTable.{CalendarTable}
use Rattle.mrp_tables.specs.declared.calendar.Entry.{Entry}
use Rattle.mrp_tables.specs.declared.calendar.First.{First}
use Rattle.mrp_tables.specs.declared.calendar.First.TheVariants as first
use Rattle.mrp_tables.specs.declared.calendar.Entry.TheVariants.{OfVersion, Start, Weeks, Workdays, Holiday}
use Rattle.mrp_tables.specs.declared.limits.TheConstants as limits
use Rattle.mrp_tables.specs.declared.version.TheConstants.{MOST_VERSION}
use Rattle.mrp_tables.specs.declared.version.Version.{Version}
use Rattle.mrp_tables.specs.declared.version.Version.TheVariants.{One}
use Rattle.mrp_tables.specs.Reading.{Adds, Reads}
use Rattle.mrp_tables.specs.Versions.{version_of}

-- the key of a record, or WORD
abbrev pub keyed : List ℕ → Cells → Result ℕ Fault
keyed key r = blame r (word_of (key ∷ []) (cell_at r 0))

-- a date that is a Monday, or RANGE
unfoldable pub start_cell : Cells → Result Date Fault
start_cell r = do
  date ← blame r (date_cell (cell_at r 1))
  if is_monday date then Ok date else Err (fault_at r faults.RANGE)

abbrev pub start_cells : Cells → Result Date Fault
start_cells r = keyed (codes "start") r >>= λ key. start_cell r

-- the number of a version
abbrev pub version_cell : Cells → Result Version Fault
version_cell r = blame r (number_cell 1 MOST_VERSION (cell_at r 1)) >>= λ number. Ok (version_of number)

-- what the first record says: the version, or the start
unfoldable pub first_cells : Cells → Result First Fault
first_cells r = do
  key ← blame r (word_of (codes "version" ∷ codes "start" ∷ []) (cell_at r 0))
  if key == 0 then (version_cell r >>= λ version. Ok (first.OfVersion version)) else (start_cell r >>= λ date. Ok (first.Start date))

-- as an entry
abbrev pub first_entry : First → Entry
first_entry (first.OfVersion version) = OfVersion version
first_entry (first.Start date) = Start date

unfoldable pub weeks_cells : Cells → Result ℕ Fault
weeks_cells r = do
  _ ← keyed (codes "weeks") r
  blame r (number_cell 1 MOST_WEEKS (cell_at r 1))

-- seven flags, each 0 or 1
abbrev pub are_flags : List ℕ → Bool
are_flags cell = (length cell == 7) && list_all (λ byte. (byte == 48) || (byte == 49)) cell

abbrev pub flags_of : List ℕ → List Bool
flags_of cell = map (λ byte. byte == 49) cell

-- seven flags, each 0 or 1, from Monday, or WORD; at least one 1, or RANGE
abbrev pub workdays_cell : List ℕ → Result (List Bool) ℕ
workdays_cell cell =
    if are_flags cell then (if has_workday (flags_of cell) then Ok (flags_of cell) else Err faults.RANGE) else Err faults.WORD

unfoldable pub workdays_cells : Cells → Result (List Bool) Fault
workdays_cells r = do
  _ ← keyed (codes "workdays") r
  blame r (workdays_cell (cell_at r 1))

unfoldable pub holiday_cells : Cells → Result Date Fault
holiday_cells r = do
  _ ← keyed (codes "holiday") r
  blame r (date_cell (cell_at r 1))

-- what a record says after the entries of the records before it, without the version
abbrev pub dated_row : List Entry → Cells → Result Entry Fault
dated_row [] r = start_cells r >>= λ date. Ok (Start date)
dated_row (start ∷ []) r = weeks_cells r >>= λ weeks. Ok (Weeks weeks)
dated_row (start ∷ weeks ∷ []) r = workdays_cells r >>= λ workdays. Ok (Workdays workdays)
dated_row (start ∷ weeks ∷ workdays ∷ holidays) r = holiday_cells r >>= λ date. Ok (Holiday date)

-- the entries after a version, where there is one
abbrev pub dated_of : List Entry → List Entry
dated_of (OfVersion version ∷ entries) = entries
dated_of entries = entries

-- what a record says after the entries of the records before it
abbrev pub entry_row : List Entry → Cells → Result Entry Fault
entry_row [] r = first_cells r >>= λ first. Ok (first_entry first)
entry_row (first ∷ entries) r = dated_row (dated_of (first ∷ entries)) r

-- the most records: a version adds one to the table's own limit
abbrev pub calendar_limit : List Entry → Option ℕ
calendar_limit (OfVersion version ∷ entries) = Some (limits.MOST_CALENDAR_RECORDS + 1)
calendar_limit entries = Some limits.MOST_CALENDAR_RECORDS

abbrev pub calendar_reads : Reads Entry
calendar_reads = record { limit = calendar_limit; row = entry_row }

-- the dates of the holidays among entries
abbrev pub dates_of : List Entry → List Date
dates_of [] = []
dates_of (OfVersion version ∷ entries) = dates_of entries
dates_of (Start date ∷ entries) = dates_of entries
dates_of (Weeks weeks ∷ entries) = dates_of entries
dates_of (Workdays workdays ∷ entries) = dates_of entries
dates_of (Holiday date ∷ entries) = date ∷ dates_of entries

-- the record of this number is missing
abbrev pub missing_record : ℕ → Fault
missing_record number = record { code = faults.COLUMNS; table = t.Calendar; row = number }

-- the version that comes first, or version 1
abbrev pub version_among : List Entry → Version
version_among (OfVersion version ∷ entries) = version
version_among entries = One

-- the calendar that the entries after a version make, with it; or this record is missing
abbrev pub dated_from : Version → ℕ → List Entry → Result CalendarTable Fault
dated_from version missing (Start start ∷ Weeks weeks ∷ Workdays workdays ∷ holidays) =
    Ok (record { version = version; calendar = record { start = start; weeks = weeks; workdays = workdays; holidays = holidays_in start weeks (dates_of holidays) } })
dated_from version missing entries = Err (missing_record missing)

-- what entries make, or the first record that is missing
abbrev pub calendar_from : List Entry → Result CalendarTable Fault
calendar_from entries = dated_from (version_among entries) (length entries + 1) (dated_of entries)

-- the entries of what is kept of them, the version aside
abbrev pub entries_of : Option Date → Option ℕ → Option (List Bool) → List Date → List Entry
entries_of None weeks workdays holidays = []
entries_of (Some start) None workdays holidays = Start start ∷ []
entries_of (Some start) (Some weeks) None holidays = Start start ∷ Weeks weeks ∷ []
entries_of (Some start) (Some weeks) (Some workdays) holidays = Start start ∷ Weeks weeks ∷ Workdays workdays ∷ map Holiday holidays

-- entries, after a version where there is one
abbrev pub after_version : Option Version → List Entry → List Entry
after_version None entries = entries
after_version (Some version) entries = OfVersion version ∷ entries

-- entries that do not begin with a version
pub record AreDated (entries : List Entry) : Type 0 where
  pub dated : dated_of entries ≡ entries
  pub version : version_among entries ≡ One

-- an entry within its limits
abbrev pub IsEntry : Entry → Type 0
IsEntry (OfVersion version) = Unit {0}
IsEntry (Start date) = (is_monday date ≡ true) × IsPlanningYear date.year
IsEntry (Weeks weeks) = IsInRange 1 MOST_WEEKS weeks
IsEntry (Workdays workdays) = has_workday workdays ≡ true
IsEntry (Holiday date) = Unit {0}

-- the fields that hold the entries: each entry is within its limits, and comes with those before it
abbrev pub AreKept : Option Date → Option ℕ → Option (List Bool) → List Date → Type 0
AreKept None weeks workdays holidays = (weeks ≡ None) × (workdays ≡ None) × (holidays ≡ [])
AreKept (Some start) None workdays holidays = IsEntry (Start start) × (workdays ≡ None) × (holidays ≡ [])
AreKept (Some start) (Some weeks) None holidays = IsEntry (Start start) × IsEntry (Weeks weeks) × (holidays ≡ [])
AreKept (Some start) (Some weeks) (Some workdays) holidays = IsEntry (Start start) × IsEntry (Weeks weeks) × IsEntry (Workdays workdays)

-- adding the entry of a record: it is what the record reads as, or nothing is added, for the record's fault or because memory was refused
abbrev pub AddsEntry : List Entry → Cells → Result (Unit {0}) Fault → List Entry → Type 0
AddsEntry old r result new = Adds (record { limit = calendar_limit; row = dated_row }) old r result new
