-- The calendar of what is kept of its entries.
use Rattle.std.proofs.Common.{◌≡◌, ◌∙◌, ◌==◌, arith, ℕ, Bool, true, false, length, List, [], ◌∷◌, Option, Some, None, Result, Ok, refl, sym, ap}
use Rattle.std.specs.Prelude.{map, is_some}
use Rattle.std.proofs.lemmas.Bool.{eqb-true, le-leb}
use Rattle.jiff.specs.Types.{Date}
use Rattle.mrp_cal.specs.Calendar as shop
use Rattle.mrp_cal.specs.Calendar.{ShopCalendar, holidays_in}
use Rattle.mrp_cal.specs.declared.calendar.TheConstants.{MOST_WEEKS}
use Rattle.mrp_cal.specs.declared.fault.CalFault.{CalFault}
use Rattle.mrp_rows.specs.Left.{Cells}
use Rattle.mrp_tables.specs.declared.calendar.Entry.{Entry}
use Rattle.mrp_tables.specs.declared.calendar.First.{First}
use Rattle.mrp_tables.specs.declared.calendar.Entry.TheVariants.{Holiday}
use Rattle.mrp_tables.specs.declared.version.Version.{Version}
use Rattle.mrp_tables.specs.Calendar.{AreDated, AreKept, after_version, dated_from, entry_row, first_cells, first_entry, dates_of, entries_of}

-- the dates of holidays alone
dates_of-holidays : (dates : List Date) → dates_of (map (λ date. Holiday date) dates) ≡ dates
dates_of-holidays [] = refl
dates_of-holidays (date ∷ dates) = ap (λ rest. date ∷ rest) (dates_of-holidays dates)

made : (start : Date) (weeks : ℕ) (workdays : List Bool) (holidays : List Date) → AreKept (Some start) (Some weeks) (Some workdays) holidays
    → shop.calendar_of start weeks workdays holidays ≡ Ok (record { start = start; weeks = weeks; workdays = workdays; holidays = holidays_in start weeks holidays })
unfolding shop.calendar_of
made start weeks workdays holidays (starts, counts, worked) = rw (starts.0, le-leb 1 weeks counts.0, le-leb weeks MOST_WEEKS counts.1, worked) refl

-- a calendar of what is kept is that of the entries
pub calendar_made : (start : Option Date) (weeks : Option ℕ) (workdays : Option (List Bool)) (holidays : List Date) (s : Date) (w : ℕ) (d : List Bool)
    → start ≡ Some s → weeks ≡ Some w → workdays ≡ Some d → AreKept start weeks workdays holidays
    → (entries : List Entry) → entries_of start weeks workdays holidays ≡ entries
    → (version : Version) (missing : ℕ) (r : Result ShopCalendar CalFault) (calendar : ShopCalendar) → r ≡ shop.calendar_of s w d holidays → r ≡ Ok calendar
    → Ok (record { version = version; calendar = calendar }) ≡ dated_from version missing entries
calendar_made start weeks workdays holidays s w d is_start is_weeks is_workdays kept entries view version missing r calendar computed given =
    let all : AreKept (Some s) (Some w) (Some d) holidays = rw (is_start, is_weeks, is_workdays) at kept in
    let whole : entries_of (Some s) (Some w) (Some d) holidays ≡ entries = rw (is_start, is_weeks, is_workdays) at view in
    let own : ShopCalendar = record { start = s; weeks = w; workdays = d; holidays = holidays_in s w holidays } in
    let found : r ≡ Ok own = computed ∙ made s w d holidays all in
    let same : calendar ≡ own = cc in
    rw same (ap (λ (dates : List Date). Ok (record { version = version; calendar = record { start = s; weeks = w; workdays = d; holidays = holidays_in s w dates } })) (sym (dates_of-holidays holidays))
    ∙ ap (dated_from version missing) whole)

-- entries that are kept have no version in front
pub kept_dated : (start : Option Date) (weeks : Option ℕ) (workdays : Option (List Bool)) (holidays : List Date) → AreDated (entries_of start weeks workdays holidays)
kept_dated None weeks workdays holidays = record { dated = refl; version = refl }
kept_dated (Some start) None workdays holidays = record { dated = refl; version = refl }
kept_dated (Some start) (Some weeks) None holidays = record { dated = refl; version = refl }
kept_dated (Some start) (Some weeks) (Some workdays) holidays = record { dated = refl; version = refl }

-- before the first record there is no entry, and its own is added
pub record IsFirst (version : Option Version) (dated own : List Entry) (r : Cells) (first : First) : Type 0 where
  pub version_none : version ≡ None
  pub dated_none : dated ≡ []
  pub own_none : own ≡ []
  pub reads : entry_row own r ≡ Ok (first_entry first)

pub first_added : (version : Option Version) (dated own : List Entry) (r : Cells) (first : First) → is_some version ≡ false → (length dated == 0) ≡ true → after_version version dated ≡ own
    → first_cells r ≡ Ok first → IsFirst version dated own r first
first_added None [] own r first none empty view reads =
    let nothing : own ≡ [] = sym view in
    record { version_none = refl; dated_none = refl; own_none = nothing; reads = rw (nothing, reads) refl }
first_added None (x ∷ xs) own r first none empty view reads = absurd (omega (arith, eqb-true _ _ empty))
first_added (Some v) dated own r first none empty view reads = absurd cc
