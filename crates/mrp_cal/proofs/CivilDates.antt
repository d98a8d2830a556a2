-- The date of a year, month and day, as `Date::new` gives it.
use Rattle.std.proofs.Common.{◌≡◌, ℕ, refl, ap, ◌⊎◌, inl, inr, arith, Option, Some, None, IsSome, IfSome, ◌↔◌, ℤ, pos}
use Rattle.std.proofs.lemmas.Bool.{false≢true}
use Rattle.std.proofs.lemmas.Int.{ints}
use Rattle.jiff.specs.Types.{Date}
use Rattle.jiff.specs.Words.{IsDate, IsYmd}
use Rattle.jiff.proofs.Family.{same_date, epoch_day_same}
use Rattle.mrp_cal.specs.CivilDay.{civil_date, civil_or_not, date_where, IsCivilDay}

-- two dates with the same year, month and day are one
pub same_parts : (a b : Date) → a.year ≡ b.year → a.month ≡ b.month → a.day ≡ b.day → a ≡ b
same_parts a b year month day = same_date a b (epoch_day_same a b year month day)

-- the constructor's test is the calendar's
has_day : (year : ℤ) (month day : ℕ) → IsDate year (pos month) (pos day) → IsCivilDay year month day
has_day year month day h = (h.0, (omega (arith, ints, h.1), omega (arith, ints, h.1)), (omega (arith, ints, h.2), omega (arith, ints, h.2)))

pub is_date : (year : ℤ) (month day : ℕ) → IsCivilDay year month day → IsDate year (pos month) (pos day)
is_date year month day h = (h.0, (omega (arith, ints, h.1), omega (arith, ints, h.1)), (omega (arith, ints, h.2), omega (arith, ints, h.2)))

date_where_is : (o : Option Date) (year : ℤ) (month day : ℕ) (w : IsCivilDay year month day ⊎ ¬ (IsCivilDay year month day)) → (IsSome o ↔ IsDate year (pos month) (pos day)) → IfSome o (IsYmd year (pos month) (pos day)) → o ≡ date_where year month day w
date_where_is (Some d) year month day (inl has) when parts =
    ap Some (same_parts d _ parts.0 (omega (arith, ints, parts.1)) (omega (arith, ints, parts.2)))
date_where_is (Some d) year month day (inr out) when parts = absurd (out (has_day year month day (when.0 refl)))
date_where_is None year month day (inl has) when parts = absurd (false≢true (when.1 (is_date year month day has)))
date_where_is None year month day (inr out) when parts = refl

-- an answer that is `Some` exactly where the calendar has the day, and then has these parts
pub civil_date_is : (o : Option Date) (year : ℤ) (month day : ℕ) → (IsSome o ↔ IsDate year (pos month) (pos day)) → IfSome o (IsYmd year (pos month) (pos day)) → o ≡ civil_date year month day
unfolding civil_date
civil_date_is o year month day when parts = date_where_is o year month day (civil_or_not year month day) when parts
