-- A text reads as a date exactly where it is that date's text.
use Rattle.std.proofs.Common.{◌≡◌, ℕ, ◌+◌, ◌-◌, ◌*◌, ◌/◌, ◌%◌, ◌<◌, ◌≤◌, true, ◌&&◌, nat_le, refl, ap, subst, sym, ◌∙◌, arith, Option, Some, None, IsSome, IfSome, ◌↔◌, ℤ, pos, negsuc, List, [], ◌∷◌, get_or, inl, inr, ◌⊎◌}
use Rattle.std.specs.Char.{is_ascii_digit}
use Rattle.std.proofs.lemmas.Bool.{false≢true, cases_Bool, and_parts, eqb-true, leb-true, le-leb}
use Rattle.std.proofs.lemmas.Int.{ints}
use Rattle.jiff.specs.Types.{Date}
use Rattle.jiff.specs.Words.{date_text, days_in_month}
use Rattle.std.proofs.lemmas.Slice.Eq.{text_from_reads}
use Rattle.mrp_cal.proofs.CivilDates.{civil_date_is, is_date}
use Rattle.mrp_cal.specs.CivilDay.{IsCivilDay, civil_date, civil_or_not, date_where}
use Rattle.mrp_cal.specs.DateText.{IsPlanningYear, IsTextOf, IsDateText, ◌>>=◌, two_digits, planning_date, has_date_form, date_of}

-- each of four readers gave a value
record Reads (century year month day : Option ℕ) (date : ℕ → ℕ → ℕ → ℕ → Option Date) (d : Date) : Type 0 where
  c : ℕ
  y : ℕ
  m : ℕ
  n : ℕ
  century_is : century ≡ Some c
  year_is : year ≡ Some y
  month_is : month ≡ Some m
  day_is : day ≡ Some n
  date_is : date c y m n ≡ Some d

abbrev four : Option ℕ → Option ℕ → Option ℕ → Option ℕ → (ℕ → ℕ → ℕ → ℕ → Option Date) → Option Date
four century year month day date =
    century >>= (λ c. year >>= (λ y. month >>= (λ m. day >>= (λ n. date c y m n))))

four-some : (century year month day : Option ℕ) (date : ℕ → ℕ → ℕ → ℕ → Option Date) (d : Date) → four century year month day date ≡ Some d → Reads century year month day date d
four-some (Some c) (Some y) (Some m) (Some n) date d e =
    record { c = c; y = y; m = m; n = n; century_is = refl; year_is = refl; month_is = refl; day_is = refl; date_is = e }
four-some None year month day date d e = absurd cc
four-some (Some c) None month day date d e = absurd cc
four-some (Some c) (Some y) None day date d e = absurd cc
four-some (Some c) (Some y) (Some m) None date d e = absurd cc

-- two digits write the number
two_digits-some : (tens ones n : ℕ) → two_digits tens ones ≡ Some n → (tens ≡ 48 + n / 10) × (ones ≡ 48 + n % 10) × (n < 100)
two_digits-some tens ones n e =
    elim (cases_Bool (is_ascii_digit tens && is_ascii_digit ones)) [
      | inl digits ↦
          let t = and_parts _ _ digits in
          let is : Some n ≡ Some (10 * (tens - 48) + (ones - 48)) = sym e ∙ rw digits refl in
          let same : n ≡ 10 * (tens - 48) + (ones - 48) = cc in
          let first = and_parts _ _ t.0 in
          let second = and_parts _ _ t.1 in
          omega (arith, leb-true 48 tens first.0, leb-true tens 57 first.1, leb-true 48 ones second.0, leb-true ones 57 second.1)
      | inr other ↦ let none : Some n ≡ None = sym e ∙ rw other refl in absurd cc
    ]

-- and each number below 100 has its two digits
two_digits-of : (n : ℕ) → n < 100 → two_digits (48 + n / 10) (48 + n % 10) ≡ Some n
two_digits-of n h =
    rw (le-leb 48 (48 + n / 10) (omega arith), le-leb (48 + n / 10) 57 (omega arith), le-leb 48 (48 + n % 10) (omega arith), le-leb (48 + n % 10) 57 (omega arith))
    (ap Some (omega arith))

abbrev year_or : ℤ → Option Date → ℤ
year_or z (Some d) = d.year
year_or z None = z

abbrev month_or : ℕ → Option Date → ℕ
month_or z (Some d) = d.month
month_or z None = z

abbrev day_or : ℕ → Option Date → ℕ
day_or z (Some d) = d.day
day_or z None = z

date_where-some : (year : ℤ) (month day : ℕ) (w : IsCivilDay year month day ⊎ ¬ (IsCivilDay year month day)) (d : Date) → date_where year month day w ≡ Some d → (d.year ≡ year) × (d.month ≡ month) × (d.day ≡ day)
date_where-some year month day (inl has) d e = (ap (λ o. year_or year o) (sym e), ap (λ o. month_or month o) (sym e), ap (λ o. day_or day o) (sym e))
date_where-some year month day (inr out) d e = cc

-- the date of a year, month and day has them
civil_date-some : (year : ℤ) (month day : ℕ) (d : Date) → civil_date year month day ≡ Some d → (d.year ≡ year) × (d.month ≡ month) × (d.day ≡ day)
unfolding civil_date
civil_date-some year month day d e = date_where-some year month day (civil_or_not year month day) d e

-- what a date of the years of a plan is
planning_date-some : (year month day : ℕ) (d : Date) → planning_date year month day ≡ Some d → IsPlanningYear d.year × ((d.year ≡ pos year) × (d.month ≡ month) × (d.day ≡ day))
planning_date-some year month day d e =
    elim (cases_Bool (nat_le 1900 year && nat_le year 2999)) [
      | inl within ↦
          let t = and_parts _ _ within in
          let parts = civil_date-some (pos year) month day d (rw within at e) in
          (rw parts.0 (omega (arith, ints, leb-true 1900 year t.0), omega (arith, ints, leb-true year 2999 t.1)), parts)
      | inr outside ↦ let none : Some d ≡ None = sym e ∙ rw outside refl in absurd cc
    ]

-- the calendar has each date's day
has_own_day : (d : Date) (year : ℤ) → d.year ≡ year → IsCivilDay year d.month d.day
has_own_day d year is = subst (λ y. IsCivilDay y d.month d.day) is (d.year_in, d.month_in, d.day_in)

month_below : (year : ℤ) (month : ℕ) → days_in_month year month < 100
month_below year month = grind arith

planning_date-of : (year : ℕ) (d : Date) → 1900 ≤ year → year ≤ 2999 → d.year ≡ pos year → planning_date year d.month d.day ≡ Some d
planning_date-of year d from to is =
    rw (le-leb 1900 year from, le-leb year 2999 to) (sym (civil_date_is (Some d) (pos year) d.month d.day (λ _. is_date (pos year) d.month d.day (has_own_day d (pos year) is), λ _. refl) (is, refl, refl)))

-- a date's text, in its numbers
abbrev ymd_text : ℕ → ℕ → ℕ → List ℕ
ymd_text year month day =
    (48 + year / 100 / 10) ∷ (48 + year / 100 % 10) ∷ (48 + year % 100 / 10) ∷ (48 + year % 100 % 10) ∷ 45 ∷ (48 + month / 10) ∷ (48 + month % 10) ∷ 45 ∷ (48 + day / 10) ∷ (48 + day % 10) ∷ []

date_text-ymd : (d : Date) (year month day : ℕ) → d.year ≡ pos year → d.month ≡ month → d.day ≡ day → date_text d ≡ ymd_text year month day
date_text-ymd d year month day y m n =
    rw y refl ∙ ap (λ t. ymd_text year t d.day) m ∙ ap (λ t. ymd_text year month t) n

-- ten bytes that are read as these numbers are their text
ymd_text-read : (text : List ℕ) (c y m n : ℕ) → has_date_form text ≡ true → two_digits (get_or text 0 0) (get_or text 1 0) ≡ Some c → two_digits (get_or text 2 0) (get_or text 3 0) ≡ Some y → two_digits (get_or text 5 0) (get_or text 6 0) ≡ Some m → two_digits (get_or text 8 0) (get_or text 9 0) ≡ Some n → text ≡ ymd_text (100 * c + y) m n
ymd_text-read text c y m n form century year month day =
    let t = and_parts _ _ form in
    let u = and_parts _ _ t.0 in
    let a = two_digits-some (get_or text 0 0) (get_or text 1 0) c century in
    let b = two_digits-some (get_or text 2 0) (get_or text 3 0) y year in
    let e = two_digits-some (get_or text 5 0) (get_or text 6 0) m month in
    let f = two_digits-some (get_or text 8 0) (get_or text 9 0) n day in
    let q : (100 * c + y) / 100 ≡ c = omega arith in
    let r : (100 * c + y) % 100 ≡ y = omega arith in
    text_from_reads text _ (eqb-true _ _ u.0)
    (rw q a.0, (rw q a.1, (rw r b.0, (rw r b.1, (eqb-true _ _ u.1, (e.0, (e.1, (eqb-true _ _ t.1, (f.0, (f.1, tt))))))))))

-- a text that reads as a date is its text
date_of-text : (text : List ℕ) (d : Date) → date_of text ≡ Some d → IsTextOf text d
unfolding date_of
date_of-text text d e =
    elim (cases_Bool (has_date_form text)) [
      | inl form ↦
          let reads = four-some (two_digits (get_or text 0 0) (get_or text 1 0)) (two_digits (get_or text 2 0) (get_or text 3 0)) (two_digits (get_or text 5 0) (get_or text 6 0)) (two_digits (get_or text 8 0) (get_or text 9 0)) (λ c y m n. planning_date (100 * c + y) m n) d (rw form at e) in
          let p = planning_date-some (100 * reads.c + reads.y) reads.m reads.n d reads.date_is in
          record {
            text_is = ymd_text-read text reads.c reads.y reads.m reads.n form reads.century_is reads.year_is reads.month_is reads.day_is ∙ sym (date_text-ymd d (100 * reads.c + reads.y) reads.m reads.n p.1.0 p.1.1 p.1.2);
            year_in = p.0;
          }
      | inr other ↦ let none : Some d ≡ None = sym e ∙ rw other refl in absurd cc
    ]

-- the year of a plan is a natural number
year_number : (z : ℤ) → IsPlanningYear z → (n : ℕ) × (z ≡ pos n) × (1900 ≤ n) × (n ≤ 2999)
year_number (pos n) h = (n, refl, omega (arith, ints), omega (arith, ints))
year_number (negsuc n) h = absurd (omega (arith, ints))

-- a date's text reads as that date
text-date_of : (text : List ℕ) (d : Date) → IsTextOf text d → date_of text ≡ Some d
unfolding date_of
text-date_of text d h =
    let y = year_number d.year h.year_in in
    let text_is : text ≡ ymd_text y.0 d.month d.day = h.text_is ∙ date_text-ymd d y.0 d.month d.day y.1 refl refl in
    let back : 100 * (y.0 / 100) + y.0 % 100 ≡ y.0 = omega arith in
    rw text_is
    (rw (two_digits-of (y.0 / 100) (omega arith), two_digits-of (y.0 % 100) (omega arith), two_digits-of d.month (omega (arith, d.month_in)), two_digits-of d.day (omega (arith, d.day_in, month_below d.year d.month)), back) (planning_date-of y.0 d y.2 y.3 y.1))

-- what is read as a date has that date's text
pub is_text : (text : List ℕ) (o : Option Date) → o ≡ date_of text → IfSome o (IsTextOf text)
is_text text (Some d) e = date_of-text text d (sym e)
is_text text None e = tt

-- and each date's text is read
pub is_accepted : (text : List ℕ) (o : Option Date) → o ≡ date_of text → IsSome o ↔ IsDateText text
is_accepted text (Some d) e = (λ some. (d, date_of-text text d (sym e)), λ has. refl)
is_accepted text None e = (λ some. absurd (false≢true some), λ has. absurd (let none : None ≡ Some has.0 = e ∙ text-date_of text has.0 has.1 in cc))
