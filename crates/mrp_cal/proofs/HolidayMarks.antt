-- One more holiday among the marked days of a horizon.
use Rattle.std.proofs.Common.{◌≡◌, ℕ, ◌+◌, ◌<◌, Bool, true, false, ◌||◌, eqb, nat_lt, refl, ap, sym, ◌∙◌, arith, Option, Some, None, ℤ, pos, negsuc, ◌+ℤ◌, ◌-ℤ◌, List, length, get_or, set, take, inl, inr}
use Rattle.std.specs.Bool.{Decides}
use Rattle.std.specs.List.{list_any}
use Rattle.std.proofs.Math.Bool.{or-true, or-false}
use Rattle.std.proofs.lemmas.Bool.{cases_Bool, cases_eq, false≢true, ltb-true, ltb-false, eqb-true, eq-eqb, ne_eqb}
use Rattle.std.proofs.lemmas.Bool.Decides.{same_from_decides, Decides-int_eq, Decides-like}
use Rattle.std.proofs.lemmas.Int.{ints}
use Rattle.std.proofs.lemmas.List.{get_or-set_same, get_or-set_other}
use Rattle.std.proofs.lemmas.List.Folds.{list_any_more}
use Rattle.jiff.specs.Types.{Date}
use Rattle.jiff.specs.Words.{epoch_day}
use Rattle.mrp_cal.specs.Calendar.{days_in, horizon_day, is_days_after}

-- the day of the horizon is k
abbrev pub is_day : ℕ → Option ℕ → Bool
is_day k (Some day) = eqb day k
is_day k None = false

is_day-tells : (weeks k : ℕ) (days : ℤ) → k < days_in weeks → Decides (is_day k (horizon_day weeks days)) (days ≡ pos k)
is_day-tells weeks k (pos n) h =
    elim (cases_Bool (nat_lt n (days_in weeks))) [
      | inl within ↦ rw within (λ e. ap pos (eqb-true n k e), λ e. eq-eqb n k (omega (arith, ints)))
      | inr outside ↦ rw outside (λ e. absurd (false≢true e), λ e. absurd (omega (arith, ints, ltb-false n (days_in weeks) outside)))
    ]
is_day-tells weeks k (negsuc n) h = (λ e. absurd (false≢true e), λ e. cc)

-- a day of the horizon is a date exactly where the date's day is that one
is_days_after-day : (start d : Date) (weeks k : ℕ) → k < days_in weeks → is_days_after start k d ≡ is_day k (horizon_day weeks (epoch_day d -ℤ epoch_day start))
is_days_after-day start d weeks k h =
    same_from_decides _ _ (Decides-int_eq (epoch_day d) (epoch_day start +ℤ pos k))
    (Decides-like _ (λ e. omega (arith, ints)) (λ e. omega (arith, ints)) (is_day-tells weeks k (epoch_day d -ℤ epoch_day start) h))

-- one more date, whose day of the horizon is given
pub list_any-day_more : (start : Date) (weeks : ℕ) (xs : List Date) (i k : ℕ) (d : Date) (day : Option ℕ) (before : Bool) → i < length xs → d ≡ get_or xs i d → day ≡ horizon_day weeks (epoch_day d -ℤ epoch_day start) → k < days_in weeks → before ≡ list_any (is_days_after start k) (take i xs) → (before || is_day k day) ≡ list_any (is_days_after start k) (take (i + 1) xs)
list_any-day_more start weeks xs i k d day before at item is within same =
    rw (list_any_more (is_days_after start k) xs i d at, ← item, is_days_after-day start d weeks k within, ← is, same) refl

-- a day that is marked
pub get_or-marked : (flags : List Bool) (day k : ℕ) → day < length flags → get_or (set flags day true) k false ≡ (get_or flags k false || eqb day k)
get_or-marked flags day k within =
    elim (cases_eq day k) [
      | inl same ↦ rw (eq-eqb day k same, ← same, get_or-set_same flags day true false within, or-true) refl
      | inr other ↦ rw (ne_eqb day k other, get_or-set_other flags day k true false (λ e. other (sym e)), or-false) refl
    ]

-- a day of the horizon is below its days
pub horizon_day-below : (weeks day : ℕ) (days : ℤ) → Some day ≡ horizon_day weeks days → day < days_in weeks
horizon_day-below weeks day (pos n) e =
    elim (cases_Bool (nat_lt n (days_in weeks))) [
      | inl within ↦ let same : Some day ≡ Some n = e ∙ rw within refl in let is : day ≡ n = cc in omega (arith, ltb-true n (days_in weeks) within)
      | inr outside ↦ let none : Some day ≡ None = e ∙ rw outside refl in absurd cc
    ]
horizon_day-below weeks day (negsuc n) e = cc
