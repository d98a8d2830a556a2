-- Which texts are dates, and which dates they are.
use Rattle.std.specs.Prelude.{◌≡◌, ℕ, Bool, ◌+◌, ◌-◌, ◌*◌, ◌&&◌, ◌==◌, nat_le, if◌then◌else◌, ℤ, pos, List, length, slice_index, Option, Some, None}
use Rattle.std.specs.Char.{is_ascii_digit}
use Rattle.jiff.specs.Types.{Date}
use Rattle.jiff.specs.Words.{IsBetween, date_text}
use Rattle.mrp_cal.specs.CivilDay.{civil_date}
use Rattle.mrp_cal.specs.declared.date_text.TheConstants.{FIRST_YEAR, LAST_YEAR}

-- the years of a plan (profile)
abbrev pub IsPlanningYear : ℤ → Type 0
IsPlanningYear year = IsBetween (pos FIRST_YEAR) (pos LAST_YEAR) year

-- a text is a date's text: YYYY-MM-DD (ISO 8601), in the years of a plan
pub record IsTextOf (text : List ℕ) (d : Date) : Type 0 where
  pub text_is : text ≡ date_text d
  pub year_in : IsPlanningYear d.year

-- some date has this text
abbrev pub IsDateText : List ℕ → Type 0
IsDateText text = (d : Date) × IsTextOf text d

-- a reader's next step, if there is a value to continue with
infixl 10 ◌>>=◌
abbrev pub ◌>>=◌ : {A B : Type 0} → Option A → (A → Option B) → Option B
(Some x) >>= f = f x
None >>= f = None

-- the number written in two bytes, if they are digits
abbrev pub two_digits : ℕ → ℕ → Option ℕ
two_digits tens ones =
    if is_ascii_digit tens && is_ascii_digit ones then Some (10 * (tens - 48) + (ones - 48)) else None

-- the date of a year, month and day, where the calendar has it, in the years of a plan
abbrev pub planning_date : ℕ → ℕ → ℕ → Option Date
planning_date year month day =
    if nat_le FIRST_YEAR year && nat_le year LAST_YEAR then civil_date (pos year) month day else None

-- ten bytes, the fifth and the eighth a dash
abbrev pub has_date_form : List ℕ → Bool
has_date_form text =
    (length text == 10) && (slice_index text 4 == 45) && (slice_index text 7 == 45)

-- the date written in the digits of ten bytes
abbrev pub digits_date : List ℕ → Option Date
digits_date text = do
  century ← two_digits (slice_index text 0) (slice_index text 1)
  year ← two_digits (slice_index text 2) (slice_index text 3)
  month ← two_digits (slice_index text 5) (slice_index text 6)
  day ← two_digits (slice_index text 8) (slice_index text 9)
  planning_date (100 * century + year) month day

-- the date that a text reads as, computed: the one date that has this text, if there is one
unfoldable pub date_of : List ℕ → Option Date
date_of text = if has_date_form text then digits_date text else None
