-- The days of the civil calendar (ISO 8601: the Gregorian calendar).
use Rattle.std.specs.Prelude.{ℕ, ℤ, pos, neg_ℤ, ◌⊎◌, Option, Some, None}
use Rattle.std.proofs.Common.{inl, inr}
use Rattle.std.proofs.Math.Nat.{not-le_of_lt}
use Rattle.std.proofs.lemmas.Bool.{cases_lt}
use Rattle.std.proofs.lemmas.Int.{by_lt_z}
use Rattle.std.specs.Int.{IsInRange}
use Rattle.std.specs.Int.Signed.{clash_ℤ}
use Rattle.jiff.specs.Types.{Date}
use Rattle.jiff.specs.Words.{IsYear, days_in_month}

-- the month of that year has this day
abbrev pub IsCivilDay : ℤ → ℕ → ℕ → Type 0
IsCivilDay year month day =
    IsYear year × IsInRange 1 12 month × IsInRange 1 (days_in_month year month) day

-- a number is within two bounds, or it is not
pub range_or_not : (low high n : ℕ) → IsInRange low high n ⊎ ¬ (IsInRange low high n)
range_or_not low high n = elim (cases_lt n low) [
  | inl under ↦ inr (λ h. not-le_of_lt under h.0)
  | inr from ↦ elim (cases_lt high n) [
    | inl over ↦ inr (λ h. not-le_of_lt over h.1)
    | inr to ↦ inl (from, to)
  ]
]

-- the calendar has a year, or does not
pub year_or_not : (year : ℤ) → IsYear year ⊎ ¬ (IsYear year)
year_or_not year =
    by_lt_z {P = IsYear year ⊎ ¬ (IsYear year)} year (neg_ℤ (pos 9999)) (λ under. inr (λ h. clash_ℤ under h.0))
    (λ from. by_lt_z {P = IsYear year ⊎ ¬ (IsYear year)} (pos 9999) year (λ over. inr (λ h. clash_ℤ over h.1)) (λ to. inl (from, to)))

-- the calendar has a day, or does not
pub civil_or_not : (year : ℤ) (month day : ℕ) → IsCivilDay year month day ⊎ ¬ (IsCivilDay year month day)
civil_or_not year month day = elim (year_or_not year) [
  | inr out ↦ inr (λ h. out h.0)
  | inl y ↦ elim (range_or_not 1 12 month) [
    | inr out ↦ inr (λ h. out h.1)
    | inl m ↦ elim (range_or_not 1 (days_in_month year month) day) [
      | inr out ↦ inr (λ h. out h.2)
      | inl d ↦ inl (y, m, d)
    ]
  ]
]

-- the date of a year, month and day, where the calendar has that day
abbrev pub date_where : (year : ℤ) (month day : ℕ) → IsCivilDay year month day ⊎ ¬ (IsCivilDay year month day) → Option Date
date_where year month day (inl has) =
    Some (record { year = year; month = month; day = day; year_in = has.0; month_in = has.1; day_in = has.2 })
date_where year month day (inr out) = None

-- the date of a year, month and day; none where the calendar has no such day
unfoldable pub civil_date : ℤ → ℕ → ℕ → Option Date
civil_date year month day = date_where year month day (civil_or_not year month day)
