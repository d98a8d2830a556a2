-- The dates of weeks, as they are read.
use Rattle.std.specs.Prelude.{ℕ, ◌≡◌, ◌-◌, ◌/◌, ◌%◌, ◌==◌, Bool, nat_lt, if◌then◌else◌, List, [], ◌∷◌, ◌++◌, codes, decimal, length, unsigned_abs}
use Rattle.std.specs.Int.{IsInRange}
use Rattle.std.specs.List.{slice_index_or}
use Rattle.jiff.specs.Types.{Date}
use Rattle.jiff.specs.Words.{epoch_day}
use Rattle.mrp_cal.specs.Calendar.{ShopCalendar}
use Rattle.mrp_cal.specs.ShopDays.{first_day_of}

-- the short names of the months
abbrev pub month_names : List (List ℕ)
month_names = codes "Jan" ∷ codes "Feb" ∷ codes "Mar" ∷ codes "Apr" ∷ codes "May" ∷ codes "Jun" ∷ codes "Jul" ∷ codes "Aug" ∷ codes "Sep" ∷ codes "Oct" ∷ codes "Nov" ∷ codes "Dec" ∷ []

-- that of a month, which is counted from 1
abbrev pub month_name : ℕ → List ℕ
month_name month = slice_index_or month_names (month - 1) []

-- the last two digits of a year
abbrev pub year_digits : ℕ → List ℕ
year_digits year = decimal (year / 10 % 10) ++ decimal (year % 10)

-- a date as the day of its month, `20 Jan`; with the last two digits of its year, `20 Jan 25`
abbrev pub date_text : Bool → Date → List ℕ
date_text with_year d =
    if with_year then decimal d.day ++ codes " " ++ month_name d.month ++ codes " " ++ year_digits (unsigned_abs d.year)
    else decimal d.day ++ codes " " ++ month_name d.month

-- a calendar has more than 52 weeks, so that their dates have years
abbrev pub has_years : ShopCalendar → Bool
has_years c = nat_lt 52 c.weeks

-- a text is the date of a week: of the day on which the week begins
pub record IsDateOf (c : ShopCalendar) (week : ℕ) (text : List ℕ) : Type 0 where
  pub date : Date
  pub day : epoch_day date ≡ first_day_of c week
  pub shown : text ≡ date_text (has_years c) date

-- the text of a week, which is counted from 1; empty if there is none
abbrev pub in_week : List (List ℕ) → ℕ → List ℕ
in_week texts week = if week == 0 then [] else slice_index_or texts (week - 1) []

-- texts are the dates of a calendar's weeks, in order
pub record AreDates (c : ShopCalendar) (texts : List (List ℕ)) : Type 0 where
  pub count : length texts ≡ c.weeks
  pub each : (week : ℕ) → IsInRange 1 c.weeks week → IsDateOf c week (in_week texts week)
