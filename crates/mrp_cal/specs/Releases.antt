-- When what is due in a week is released, where lead times are in shop days (APICS Dictionary: manufacturing calendar, lead time
-- offset; which shop day counts: profile).
use Rattle.std.specs.Prelude.{ℕ, ◌≤◌, ◌<◌, ◌+◌, ◌-◌, ◌==◌, nat_lt, nat_le, if◌then◌else◌, List, map, sum, count_by}
use Rattle.std.specs.List.{range_with_len}
use Rattle.mrp_cal.specs.Calendar.{ShopCalendar}
use Rattle.mrp_cal.specs.ShopDays.{shop_days_in}

-- the number of a week's first shop day: the shop days of the horizon are numbered from 1
unfoldable pub first_shop_day : ShopCalendar → ℕ → ℕ
first_shop_day c week = 1 + sum (map (shop_days_in c) (range_with_len 1 (week - 1)))

-- those of the weeks up to one
abbrev pub first_days : ShopCalendar → ℕ → List ℕ
first_days c last = map (first_shop_day c) (range_with_len 1 last)

-- the week of a shop day, by its number: the last of the weeks up to one whose first shop day has no greater number
unfoldable pub week_of_shop_day : ShopCalendar → ℕ → ℕ → ℕ
week_of_shop_day c last day = count_by (λ first. nat_le first day) (first_days c last)

-- a shop day, by its number, is of a week: the week's first has no greater number, and the next week's first a greater one
pub record IsOfWeek (c : ShopCalendar) (day week : ℕ) : Type 0 where
  pub from : 1 ≤ week
  pub own : first_shop_day c week ≤ day
  pub next : day < first_shop_day c (week + 1)

-- the week of release, and how many shop days too late that is: so many shop days before the first one of the due week, or in
-- week 1 where the horizon has no such day
abbrev pub release_of : ShopCalendar → ℕ → ℕ → ℕ × ℕ
release_of c due lead =
    if lead == 0 then (due, 0)
    else if nat_lt lead (first_shop_day c due) then (week_of_shop_day c due (first_shop_day c due - lead), 0)
    else (1, (1 + lead) - first_shop_day c due)
