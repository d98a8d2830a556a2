-- Days beside others.
use Rattle.std.specs.Prelude.{ℕ, zero, suc, ◌+◌, ◌-◌, ◌*◌, ℤ, pos, negsuc, ◌+ℤ◌, ◌-ℤ◌, Bool, true, false, unwrap_or, Option, Some, None}
use Rattle.jiff.specs.Types.{Date}
use Rattle.jiff.specs.Words.{days_in_month, epoch_day, weekday_of}
use Rattle.mrp_cal.specs.Calendar.{ShopCalendar}
use Rattle.mrp_cal.specs.CivilDay.{civil_date}

-- the day after: the next of its month, or the first of the next month, or of the next year
abbrev pub day_after : Date → Date
day_after d = unwrap_or (civil_date d.year d.month (d.day + 1)) (unwrap_or (civil_date d.year (d.month + 1) 1) (unwrap_or (civil_date (d.year +ℤ pos 1) 1 1) d))

unfoldable pub days_after : ℕ → Date → Date
days_after zero d = d
days_after (suc n) d = day_after (days_after n d)

-- the day before: the one before it in its month, or the last of the month before, or of the year before
abbrev pub day_before : Date → Date
day_before d = unwrap_or (civil_date d.year d.month (d.day - 1)) (unwrap_or (civil_date d.year (d.month - 1) (days_in_month d.year (d.month - 1))) (unwrap_or (civil_date (d.year -ℤ pos 1) 12 31) d))

unfoldable pub days_before : ℕ → Date → Date
days_before zero d = d
days_before (suc n) d = day_before (days_before n d)

-- the Monday of a date's week
abbrev pub monday_before : Date → Date
monday_before d = days_before (weekday_of d) d

-- the last day of a calendar's horizon
abbrev pub last_day : ShopCalendar → Date
last_day c = days_after (7 * c.weeks - 1) c.start

abbrev pub is_negative : ℤ → Bool
is_negative (pos days) = false
is_negative (negsuc days) = true

-- a date comes before a day
abbrev pub comes_before : Date → Date → Bool
comes_before date first = is_negative (epoch_day date -ℤ epoch_day first)

-- a date comes before a calendar's horizon
abbrev pub is_before : ShopCalendar → Option Date → Bool
is_before c (Some date) = comes_before date c.start
is_before c None = false
