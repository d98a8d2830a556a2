-- What is odd about the calendar: weeks without a shop day (profile).
use Rattle.std.specs.Prelude.{ℕ, ◌≡◌, ◌==◌, List, filter, Some}
use Rattle.std.specs.List.{AllZip, range_with_len}
use Rattle.jiff.specs.Types.{Date}
use Rattle.jiff.specs.Words.{epoch_day}
use Rattle.mrp_cal.specs.Calendar.{ShopCalendar}
use Rattle.mrp_cal.specs.ShopDays.{first_day_of, shop_days_in}
use Rattle.mrp_warn.specs.declared.oddity.Oddity.TheVariants.{ClosedWeek}
use Rattle.mrp_warn.specs.declared.oddity.Warning.{Warning}

-- the weeks up to one that have no shop day
abbrev pub closed_weeks : ShopCalendar → ℕ → List ℕ
closed_weeks c weeks = filter (λ week. shop_days_in c week == 0) (range_with_len 1 weeks)

-- a warning of a week, at the record of the workdays, with its Monday
abbrev pub IsOfWeek : ShopCalendar → ℕ → ℕ → Warning → Type 0
IsOfWeek c place week w = (monday : Date) × (epoch_day monday ≡ first_day_of c week) × (w ≡ record { place = Some place; oddity = ClosedWeek week monday })

-- one of each of these weeks
abbrev pub AreOfWeeks : ShopCalendar → ℕ → List ℕ → List Warning → Type 0
AreOfWeeks c place weeks warnings = AllZip (IsOfWeek c place) weeks warnings
