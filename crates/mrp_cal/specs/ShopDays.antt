-- The shop days of a week, and its first day.
use Rattle.std.specs.Prelude.{ℕ, ◌+◌, ◌-◌, ◌*◌, ◌%◌, ◌&&◌, not, Bool, false, ℤ, pos, ◌+ℤ◌, List, map, count_by}
use Rattle.std.specs.List.{range_with_len, slice_index_or}
use Rattle.jiff.specs.Words.{epoch_day}
use Rattle.mrp_cal.specs.Calendar.{ShopCalendar}

-- the weekday of a day of the horizon, counted from 0: both are counted from a Monday
abbrev pub is_workday : ShopCalendar → ℕ → Bool
is_workday c day = slice_index_or c.workdays (day % 7) false

-- a day of the horizon, counted from 0, is a holiday
abbrev pub is_holiday : ShopCalendar → ℕ → Bool
is_holiday c day = slice_index_or c.holidays day false

-- a shop day is a day of a weekday that is worked, and no holiday (APICS Dictionary: shop calendar)
abbrev pub is_shop_day : ShopCalendar → ℕ → Bool
is_shop_day c day = is_workday c day && not (is_holiday c day)

-- the seven days of a week that is counted from 1, from Monday on, as days of the horizon counted from 0
abbrev pub days_of_week : ℕ → List ℕ
days_of_week week = map (λ weekday. 7 * (week - 1) + weekday) (range_with_len 0 7)

-- how many of a week's days are shop days
abbrev pub shop_days_in : ShopCalendar → ℕ → ℕ
shop_days_in c week = count_by (is_shop_day c) (days_of_week week)

-- the day on which a week begins, as the number that the civil calendar gives it
abbrev pub first_day_of : ShopCalendar → ℕ → ℤ
first_day_of c week = epoch_day c.start +ℤ pos (7 * (week - 1))
