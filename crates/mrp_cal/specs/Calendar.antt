-- The shop calendar: the weeks of its planning horizon, its workdays and its holidays.
use Rattle.std.specs.Prelude.{◌≡◌, ℕ, ◌+◌, ◌*◌, ◌/◌, ◌&&◌, ◌==◌, not, nat_lt, nat_le, if◌then◌else◌, Bool, IsTrue, ℤ, pos, negsuc, ◌+ℤ◌, ◌-ℤ◌, List, map, length, Option, Some, None, Result, Ok, Err}
use Rattle.std.specs.List.{list_any, range_with_len}
use Rattle.std.specs.Int.{IsInRange}
use Rattle.std.specs.Ordering.{int_eq}
use Rattle.jiff.specs.Types.{Date}
use Rattle.jiff.specs.Words.{epoch_day, weekday_of}
use Rattle.mrp_cal.specs.declared.calendar.TheConstants.{MOST_WEEKS}
use Rattle.mrp_cal.specs.declared.fault.CalFault.{CalFault}
use Rattle.mrp_cal.specs.declared.fault.CalFault.TheVariants.{StartNotMonday, Weeks, NoWorkday}
use Rattle.mrp_cal.specs.DateText.{IsPlanningYear}

-- a shop calendar (APICS Dictionary: shop calendar; its form: profile): the first day of the
-- planning horizon, the horizon's weeks, which of the seven weekdays from Monday on are worked,
-- and which days of the horizon, from the first, are holidays
pub record ShopCalendar : Type 0 where
  pub start : Date
  pub weeks : ℕ
  pub workdays : List Bool
  pub holidays : List Bool

-- weekdays are counted from Monday, which is 0
abbrev pub is_monday : Date → Bool
is_monday d = weekday_of d == 0

-- some weekday is worked
abbrev pub has_workday : List Bool → Bool
has_workday workdays = list_any (λ worked. worked) workdays

-- the days of a horizon of so many weeks
abbrev pub days_in : ℕ → ℕ
days_in weeks = 7 * weeks

-- a date comes that many days after another
abbrev pub is_days_after : Date → ℕ → Date → Bool
is_days_after start days d = int_eq (epoch_day d) (epoch_day start +ℤ pos days)

-- for each day of the horizon, whether it is one of the holidays: one that is listed twice counts
-- once, and one outside the horizon has no effect (profile)
abbrev pub holidays_in : Date → ℕ → List Date → List Bool
holidays_in start weeks holidays =
    map (λ day. list_any (is_days_after start day) holidays) (range_with_len 0 (days_in weeks))

-- the calendar of a start, weeks, workdays and holidays, or the first thing that is wrong: the
-- start, the weeks, the workdays (profile)
unfoldable pub calendar_of : Date → ℕ → List Bool → List Date → Result ShopCalendar CalFault
calendar_of start weeks workdays holidays =
    if not (is_monday start) then Err StartNotMonday
    else if not (nat_le 1 weeks && nat_le weeks MOST_WEEKS) then Err Weeks
    else if not (has_workday workdays) then Err NoWorkday
    else Ok (record { start = start; weeks = weeks; workdays = workdays; holidays = holidays_in start weeks holidays })

-- what each shop calendar keeps
pub record IsShopCalendar (c : ShopCalendar) : Type 0 where
  pub start_year : IsPlanningYear c.start.year
  pub monday : IsTrue (is_monday c.start)
  pub weeks_in : IsInRange 1 MOST_WEEKS c.weeks
  pub weekdays : length c.workdays ≡ 7
  pub worked : IsTrue (has_workday c.workdays)
  pub days : length c.holidays ≡ days_in c.weeks

-- the day of the horizon, counted from 0, that is so many days after the start
abbrev pub horizon_day : ℕ → ℤ → Option ℕ
horizon_day weeks (pos days) = if nat_lt days (days_in weeks) then Some days else None
horizon_day weeks (negsuc _) = None

-- the week, counted from 1, of a day of the horizon: weeks have seven days each
abbrev pub week_of_day : Option ℕ → Option ℕ
week_of_day (Some day) = Some (day / 7 + 1)
week_of_day None = None

-- the week of a date; none outside the horizon (profile)
abbrev pub week_of : ShopCalendar → Date → Option ℕ
week_of c d = week_of_day (horizon_day c.weeks (epoch_day d -ℤ epoch_day c.start))
