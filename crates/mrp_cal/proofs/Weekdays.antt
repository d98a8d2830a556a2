-- Days from the start of a plan: their weekdays, and that the library has them.
use Rattle.std.proofs.Common.{◌≡◌, ℕ, zero, suc, ◌+◌, ◌-◌, ◌*◌, ◌/◌, ◌%◌, ◌≤◌, ◌∙◌, refl, ap, arith, rules, inl, zero-add, ℤ, pos, ◌+ℤ◌, ◌-ℤ◌, ◌≤ℤ◌, Some, true, nat_lt}
use Rattle.std.proofs.lemmas.Bool.{eqb-true, lt-ltb}
use Rattle.std.proofs.lemmas.Int.{ints}
use Rattle.jiff.specs.Types.{Date}
use Rattle.jiff.specs.Words.{epoch_day, weekday_of, IsEpochDay}
use Rattle.jiff.proofs.Family.{days_from_civil-day, epoch_day-lt, epoch_day_range, epoch_day_same, weekday_number-day}
use Rattle.std.specs.Int.{IsInRange}
use Rattle.mrp_cal.specs.Calendar.{IsShopCalendar, ShopCalendar, week_of}
use Rattle.mrp_cal.specs.DateText.{IsPlanningYear}
use Rattle.mrp_cal.specs.ShopDays.{first_day_of}

-- a day so many days after another, where the other has that many more in its month
moved : (a b x : ℤ) (m k : ℕ) → a +ℤ pos (m + k) ≡ b +ℤ pos m → x ≡ a +ℤ pos k → x ≡ b
moved a b x m k more is = omega (arith, ints)

-- the start is a Monday
pub weekday_of-day : (c : ShopCalendar) → IsShopCalendar c → (d : Date) (day : ℕ) → epoch_day d ≡ epoch_day c.start +ℤ pos day → weekday_of d ≡ day % 7
weekday_of-day c keeps d day is =
    let s = c.start in
    let monday : weekday_of c.start ≡ 0 = eqb-true _ _ keeps.monday in
    let days : (s.day + day) - s.day ≡ day = omega arith in
    rw (moved (epoch_day s) _ (epoch_day d) s.day day (days_from_civil-day s.year s.month s.day (s.day + day) s.day_in.0 (omega (arith, s.day_in))) is)
    (weekday_number-day s.year s.month s.day (s.day + day) s.day_in.0 (omega arith) ∙ rw (monday, days, zero-add day) refl)

-- the first day of a year
unfoldable new_year : (year : ℕ) → year ≤ 9999 → Date
new_year year h = record { year = pos year; month = 1; day = 1; year_in = (omega (arith, ints), omega (arith, ints)); month_in = search rules; day_in = search rules }

-- each year has at least one day
years_pass : (years from : ℕ) (first : from ≤ 9999) (last : from + years ≤ 9999) → (epoch_day (new_year from first) +ℤ pos years) ≤ℤ epoch_day (new_year (from + years) last)
unfolding new_year
years_pass zero from first last =
    let same = epoch_day_same (new_year from first) (new_year (from + zero) last) (ap pos (omega arith)) refl refl in
    omega (arith, ints)
years_pass (suc years) from first last =
    let before = years_pass years from first (omega arith) in
    let next = epoch_day-lt (new_year (from + years) (omega arith)) (new_year (from + suc years) last) (inl (omega (arith, ints))) in
    omega (arith, ints)

-- the library has the days of two years from a date of a plan on
pub has_days : (d : Date) (days : ℕ) → IsPlanningYear d.year → days ≤ 728 → IsEpochDay (epoch_day d +ℤ pos days)
unfolding new_year
has_days d days year_in h =
    let before = epoch_day-lt d (new_year 3000 (omega arith)) (inl (omega (arith, ints))) in
    let years = years_pass 728 3000 (omega arith) (omega arith) in
    let last = epoch_day_range (new_year 3728 (omega arith)) in
    (omega (arith, ints, epoch_day_range d), omega (arith, ints, last))

-- the first day of a week falls in it
pub week_of-first_day : (c : ShopCalendar) (d : Date) (week : ℕ) → IsInRange 1 c.weeks week → epoch_day d ≡ first_day_of c week → week_of c d ≡ Some week
week_of-first_day c d week within is =
    let days : (epoch_day d -ℤ epoch_day c.start) ≡ pos (7 * (week - 1)) = omega (arith, ints) in
    let inside : nat_lt (7 * (week - 1)) (7 * c.weeks) ≡ true = lt-ltb _ _ (omega (arith, within.0, within.1)) in
    let number : 7 * (week - 1) / 7 + 1 ≡ week = omega (arith, within.0) in
    rw (days, inside, number) refl
