-- The days beside a date, by the numbers that the civil calendar gives them.
use Rattle.std.proofs.Common.{◌≡◌, ◌∙◌, ◌⊎◌, inl, inr, ℕ, zero, suc, ◌+◌, ◌-◌, ◌*◌, ◌≤◌, ap, arith, refl, rules, sym, ℤ, pos, ◌+ℤ◌, ◌-ℤ◌, ◌≤ℤ◌}
use Rattle.std.specs.Prelude.{neg_ℤ, unwrap_or, ◌<ℤ◌}
use Rattle.std.proofs.lemmas.Bool.{cases_lt}
use Rattle.std.proofs.lemmas.Int.{by_lt_z, ints}
use Rattle.jiff.specs.Types.{Date}
use Rattle.jiff.specs.Words.{days_in_month, epoch_day}
use Rattle.jiff.proofs.Family.{epoch_day-lt, epoch_day_injective, epoch_day_range, same_date, days_from_civil-day, days_from_civil-max, days_from_civil-min, days_from_civil-next_month, days_from_civil-next_year}
use Rattle.mrp_cal.specs.DateText.{IsPlanningYear}
use Rattle.mrp_cal.specs.CivilDay.{IsCivilDay, civil_date, civil_or_not, date_where}
use Rattle.mrp_advice.specs.Dates.{day_after, day_before, days_after, days_before}

month_some : (year : ℤ) (month : ℕ) → 1 ≤ days_in_month year month
month_some year month = grind arith

-- a date after which its month has no day
last_of_month : (d : Date) → ¬ (IsCivilDay d.year d.month (d.day + 1)) → d.day ≡ days_in_month d.year d.month
last_of_month d out = elim (cases_lt d.day (days_in_month d.year d.month)) [
  | inl within ↦ absurd (out (d.year_in, d.month_in, (omega arith, omega (arith, within))))
  | inr past ↦ omega (arith, past, d.day_in.1)
]

-- a month after which its year has no month
last_of_year : (d : Date) → ¬ (IsCivilDay d.year (d.month + 1) 1) → d.month ≡ 12
last_of_year d out = elim (cases_lt d.month 12) [
  | inl within ↦ absurd (out (d.year_in, (omega arith, omega (arith, within)), (omega arith, month_some d.year (d.month + 1))))
  | inr past ↦ omega (arith, past, d.month_in.1)
]

abbrev Civil : ℤ → ℕ → ℕ → Type 0
Civil year month day = IsCivilDay year month day ⊎ ¬ (IsCivilDay year month day)

abbrev after_of : (d : Date) → Civil d.year d.month (d.day + 1) → Civil d.year (d.month + 1) 1 → Civil (d.year +ℤ pos 1) 1 1 → Date
after_of d day month year =
    unwrap_or (date_where d.year d.month (d.day + 1) day) (unwrap_or (date_where d.year (d.month + 1) 1 month) (unwrap_or (date_where (d.year +ℤ pos 1) 1 1 year) d))

-- the calendar's last day
last_day_of_all : (d : Date) → d.year ≡ pos 9999 → d.month ≡ 12 → d.day ≡ 31 → epoch_day d ≡ pos 2_932_896
last_day_of_all d year month day = rw (year, month, day) days_from_civil-max

after_of-epoch : (d : Date) (day : Civil d.year d.month (d.day + 1)) (month : Civil d.year (d.month + 1) 1) (year : Civil (d.year +ℤ pos 1) 1 1) → epoch_day d <ℤ pos 2_932_896
    → epoch_day (after_of d day month year) ≡ epoch_day d +ℤ pos 1
after_of-epoch d (inl has) month year below = omega (arith, ints, days_from_civil-day d.year d.month d.day (d.day + 1) d.day_in.0 (omega arith))
after_of-epoch d (inr out) (inl has) year below = days_from_civil-next_month d.year d.month d.day d.month_in.0 (last_of_month d out)
after_of-epoch d (inr out) (inr none) (inl has) below =
    let december = last_of_year d none in
    let day : d.day ≡ 31 = last_of_month d out ∙ rw december refl in
    rw (december, day) (days_from_civil-next_year d.year (d.year +ℤ pos 1) (omega (arith, ints, d.year_in.0)) refl)
after_of-epoch d (inr out) (inr none) (inr over) below =
    let december = last_of_year d none in
    let day : d.day ≡ 31 = last_of_month d out ∙ rw december refl in
    by_lt_z {P = epoch_day d ≡ epoch_day d +ℤ pos 1} d.year (pos 9999)
    (λ within. absurd (over ((omega (arith, ints, d.year_in.0), omega (arith, ints, within)), (omega arith, omega arith), (omega arith, month_some (d.year +ℤ pos 1) 1))))
    (λ last. absurd (omega (arith, ints, below, last_day_of_all d (omega (arith, ints, last, d.year_in.1)) december day)))

-- the day after comes one day later
pub day_after-epoch : (d : Date) → epoch_day d <ℤ pos 2_932_896 → epoch_day (day_after d) ≡ epoch_day d +ℤ pos 1
unfolding civil_date
day_after-epoch d below = after_of-epoch d (civil_or_not d.year d.month (d.day + 1)) (civil_or_not d.year (d.month + 1) 1) (civil_or_not (d.year +ℤ pos 1) 1 1) below

-- and so many days after come as many days later
pub days_after-epoch : (n : ℕ) (d : Date) → (epoch_day d +ℤ pos n) ≤ℤ pos 2_932_896 → epoch_day (days_after n d) ≡ epoch_day d +ℤ pos n
unfolding days_after
days_after-epoch zero d below = omega (arith, ints)
days_after-epoch (suc n) d below =
    let before = days_after-epoch n d (omega (arith, ints, below)) in
    let next = day_after-epoch (days_after n d) (omega (arith, ints, below, before)) in
    omega (arith, ints, before, next)

-- the calendar's last day stays
unfoldable last_date : Date
last_date = record { year = pos 9999; month = 12; day = 31; year_in = (omega (arith, ints), omega (arith, ints)); month_in = search rules; day_in = search rules }

after_of-last : (d : Date) (day : Civil d.year d.month (d.day + 1)) (month : Civil d.year (d.month + 1) 1) (year : Civil (d.year +ℤ pos 1) 1 1) → d.year ≡ pos 9999 → d.month ≡ 12 → d.day ≡ 31
    → after_of d day month year ≡ d
after_of-last d (inl has) month year is_year is_month is_day =
    let long : days_in_month d.year d.month ≡ 31 = rw is_month refl in
    absurd (omega (arith, has.2.1, long, is_day))
after_of-last d (inr out) (inl has) year is_year is_month is_day = absurd (omega (arith, has.1.1, is_month))
after_of-last d (inr out) (inr none) (inl has) is_year is_month is_day = absurd (omega (arith, ints, has.0.1, is_year))
after_of-last d (inr out) (inr none) (inr over) is_year is_month is_day = refl

pub day_after-last : (d : Date) → ¬ (epoch_day d <ℤ pos 2_932_896) → day_after d ≡ d
unfolding civil_date last_date
day_after-last d over =
    let most = (epoch_day_range d).1 in
    let is : epoch_day d ≡ epoch_day last_date = by_lt_z {P = epoch_day d ≡ epoch_day last_date} (epoch_day d) (pos 2_932_896) (λ below. absurd (over below)) (λ least. omega (arith, ints, most, least, days_from_civil-max)) in
    let parts = epoch_day_injective d last_date is in
    after_of-last d (civil_or_not d.year d.month (d.day + 1)) (civil_or_not d.year (d.month + 1) 1) (civil_or_not (d.year +ℤ pos 1) 1 1) parts.0 parts.1 parts.2

-- days after days
pub days_after-add : (a b : ℕ) (d : Date) → days_after a (days_after b d) ≡ days_after (a + b) d
unfolding days_after
days_after-add zero b d = let none : zero + b ≡ b = omega arith in rw none refl
days_after-add (suc a) b d = let more : suc a + b ≡ suc (a + b) = omega arith in rw more (ap day_after (days_after-add a b d))

-- the day so many days after, by its number
pub days_after-is : (n : ℕ) (d e : Date) → epoch_day e ≡ epoch_day d +ℤ pos n → e ≡ days_after n d
days_after-is n d e is =
    let within : (epoch_day d +ℤ pos n) ≤ℤ pos 2_932_896 = omega (arith, ints, is, (epoch_day_range e).1) in
    same_date e (days_after n d) (is ∙ sym (days_after-epoch n d within))

-- the last day of a horizon is the Sunday of its last week
pub last_day-is : (start monday : Date) (weeks : ℕ) → 1 ≤ weeks → epoch_day monday ≡ epoch_day start +ℤ pos (7 * (weeks - 1)) → days_after 6 monday ≡ days_after (7 * weeks - 1) start
last_day-is start monday weeks some is =
    let days : 6 + 7 * (weeks - 1) ≡ 7 * weeks - 1 = omega (arith, some) in
    ap (days_after 6) (days_after-is (7 * (weeks - 1)) start monday is) ∙ days_after-add 6 (7 * (weeks - 1)) start ∙ ap (λ (n : ℕ). days_after n start) days

-- a date before which its month has no day
first_of_month : (d : Date) → ¬ (IsCivilDay d.year d.month (d.day - 1)) → d.day ≡ 1
first_of_month d out = elim (cases_lt 1 d.day) [
  | inl later ↦ absurd (out (d.year_in, d.month_in, (omega (arith, later), omega (arith, d.day_in.1))))
  | inr not_later ↦ omega (arith, not_later, d.day_in.0)
]

-- a month before which its year has no month
first_of_year : (d : Date) → ¬ (IsCivilDay d.year (d.month - 1) (days_in_month d.year (d.month - 1))) → d.month ≡ 1
first_of_year d out = elim (cases_lt 1 d.month) [
  | inl later ↦ absurd (out (d.year_in, (omega (arith, later), omega (arith, d.month_in.1)), (month_some d.year (d.month - 1), omega arith)))
  | inr not_later ↦ omega (arith, not_later, d.month_in.0)
]

abbrev before_of : (d : Date) → Civil d.year d.month (d.day - 1) → Civil d.year (d.month - 1) (days_in_month d.year (d.month - 1)) → Civil (d.year -ℤ pos 1) 12 31 → Date
before_of d day month year =
    unwrap_or (date_where d.year d.month (d.day - 1) day) (unwrap_or (date_where d.year (d.month - 1) (days_in_month d.year (d.month - 1)) month) (unwrap_or (date_where (d.year -ℤ pos 1) 12 31 year) d))

-- the calendar's first day
first_day_of_all : (d : Date) → d.year ≡ neg_ℤ (pos 9999) → d.month ≡ 1 → d.day ≡ 1 → epoch_day d ≡ neg_ℤ (pos 4_371_587)
first_day_of_all d year month day = rw (year, month, day) days_from_civil-min

before_of-epoch : (d : Date) (day : Civil d.year d.month (d.day - 1)) (month : Civil d.year (d.month - 1) (days_in_month d.year (d.month - 1))) (year : Civil (d.year -ℤ pos 1) 12 31) → neg_ℤ (pos 4_371_587) <ℤ epoch_day d
    → epoch_day (before_of d day month year) ≡ epoch_day d -ℤ pos 1
before_of-epoch d (inl has) month year above = omega (arith, ints, days_from_civil-day d.year d.month (d.day - 1) d.day has.2.0 d.day_in.0, has.2.0)
before_of-epoch d (inr out) (inl has) year above =
    let day = first_of_month d out in
    let same : (d.month - 1) + 1 ≡ d.month = omega (arith, d.month_in.0) in
    let next = days_from_civil-next_month d.year (d.month - 1) (days_in_month d.year (d.month - 1)) has.1.0 refl in
    rw day (omega (arith, ints, rw same at next))
before_of-epoch d (inr out) (inr none) (inl has) above =
    let day = first_of_month d out in
    let january = first_of_year d none in
    let next = days_from_civil-next_year (d.year -ℤ pos 1) d.year (omega (arith, ints, d.year_in.0)) (omega (arith, ints)) in
    rw (january, day) (omega (arith, ints, next))
before_of-epoch d (inr out) (inr none) (inr under) above =
    let day = first_of_month d out in
    let january = first_of_year d none in
    by_lt_z {P = epoch_day d ≡ epoch_day d -ℤ pos 1} (neg_ℤ (pos 9999)) d.year
    (λ within. absurd (under ((omega (arith, ints, within), omega (arith, ints, d.year_in.1)), (omega arith, omega arith), (omega arith, omega arith))))
    (λ first. absurd (omega (arith, ints, above, first_day_of_all d (omega (arith, ints, first, d.year_in.0)) january day)))

-- the day before comes one day earlier
pub day_before-epoch : (d : Date) → neg_ℤ (pos 4_371_587) <ℤ epoch_day d → epoch_day (day_before d) ≡ epoch_day d -ℤ pos 1
unfolding civil_date
day_before-epoch d above = before_of-epoch d (civil_or_not d.year d.month (d.day - 1)) (civil_or_not d.year (d.month - 1) (days_in_month d.year (d.month - 1))) (civil_or_not (d.year -ℤ pos 1) 12 31) above

-- and so many days before come as many days earlier
pub days_before-epoch : (n : ℕ) (d : Date) → neg_ℤ (pos 4_371_587) ≤ℤ (epoch_day d -ℤ pos n) → epoch_day (days_before n d) ≡ epoch_day d -ℤ pos n
unfolding days_before
days_before-epoch zero d above = omega (arith, ints)
days_before-epoch (suc n) d above =
    let after = days_before-epoch n d (omega (arith, ints, above)) in
    let next = day_before-epoch (days_before n d) (omega (arith, ints, above, after)) in
    omega (arith, ints, after, next)

-- the library has the days of a week before a date of a plan
unfoldable early_date : Date
early_date = record { year = neg_ℤ (pos 9999); month = 1; day = 7; year_in = (omega (arith, ints), omega (arith, ints)); month_in = search rules; day_in = search rules }

pub has_week_before : (d : Date) (days : ℕ) → IsPlanningYear d.year → days ≤ 6 → neg_ℤ (pos 4_371_587) ≤ℤ (epoch_day d -ℤ pos days)
unfolding early_date
has_week_before d days year_in few =
    let later = epoch_day-lt early_date d (inl (omega (arith, ints, year_in.0))) in
    let own = days_from_civil-day (neg_ℤ (pos 9999)) 1 1 7 (omega arith) (omega arith) in
    omega (arith, ints, later, own, days_from_civil-min, few)

-- the day so many days before, by its number
pub days_before-is : (n : ℕ) (d e : Date) → epoch_day e ≡ epoch_day d -ℤ pos n → e ≡ days_before n d
days_before-is n d e is =
    let within : neg_ℤ (pos 4_371_587) ≤ℤ (epoch_day d -ℤ pos n) = omega (arith, ints, is, (epoch_day_range e).0) in
    same_date e (days_before n d) (is ∙ sym (days_before-epoch n d within))

-- the day after, by its number
pub day_after-is : (d e : Date) → epoch_day e ≡ epoch_day d +ℤ pos 1 → e ≡ day_after d
day_after-is d e is =
    let below : epoch_day d <ℤ pos 2_932_896 = omega (arith, ints, is, (epoch_day_range e).1) in
    same_date e (day_after d) (is ∙ sym (day_after-epoch d below))

-- no day after, and one day more
pub days_after-none : (d : Date) → days_after 0 d ≡ d
unfolding days_after
days_after-none d = refl

pub days_after-next : (n : ℕ) (d : Date) → day_after (days_after n d) ≡ days_after (n + 1) d
unfolding days_after
days_after-next n d = let same : n + 1 ≡ suc n = omega arith in rw same refl
