-- The dates of weeks.
use Rattle.std.proofs.Common.{◌≡◌, ◌∙◌, ◌≤◌, ℕ, ◌+◌, Bool, true, false, List, [], ◌∷◌, ◌++◌, Option, Some, None, codes, decimal, length, refl, ap, append_assoc, arith}
use Rattle.std.specs.Prelude.{◌&&◌, ◌==◌, if◌then◌else◌, unsigned_abs}
use Rattle.std.specs.Char.{is_ascii_digit}
use Rattle.std.specs.Int.{IsInRange}
use Rattle.std.specs.List.{filter, flat_map, list_all}
use Rattle.std.proofs.lemmas.Bool.{ne_eqb}
use Rattle.std.proofs.lemmas.List.{length-append}
use Rattle.std.proofs.lemmas.Fmt.{digits_decimal, digits_value-decimal}
use Rattle.jiff.specs.Types.{Date}
use Rattle.mrp_cal.specs.Calendar.{week_of}
use Rattle.mrp_cal.proofs.Weekdays.{week_of-first_day}
use Rattle.mrp_qty.specs.Digits.{value_of}
use Rattle.mrp_qty.proofs.Numerals.{numerals}
use Rattle.mrp_facts.specs.Dates.{AreDates, date_text, has_years, in_week, month_name, year_digits}
use Rattle.mrp_facts.specs.Facts.{Facts}
use Rattle.mrp_page.specs.Amounts.{amount}
use Rattle.mrp_page.specs.Escaped.{escaped}
use Rattle.mrp_page.specs.layout.Records.{date_end, date_open, week, week_end, weeks_end}
use Rattle.mrp_page.specs.Row.{RowView, cell_at}
use Rattle.mrp_page.specs.Template.{row_html}
use Rattle.mrp_page.specs.Dates.{date_in}
use Rattle.mrp_page.specs.Weeks.{date_html, week_html, weeks_html}

-- what passes in all is kept in all
kept-all : (p : ℕ → Bool) (xs : List ℕ) → list_all p xs ≡ true → filter p xs ≡ xs
kept-all p [] all = refl
kept-all p (x ∷ xs) all = by (p x) refl (kept-all p xs) all
  where
    by : (b : Bool) → p x ≡ b → (list_all p xs ≡ true → filter p xs ≡ xs) → (b && list_all p xs) ≡ true → (if b then x ∷ filter p xs else filter p xs) ≡ x ∷ xs
    by true passes more rest = ap (λ (ys : List ℕ). x ∷ ys) (more rest)
    by false passes more rest = absurd cc

-- a number is that of its text
amount-decimal : (n : ℕ) → n ≤ 1000000 → amount (decimal n) ≡ n
amount-decimal n small =
    let read : value_of (filter is_ascii_digit (decimal n)) ≡ n = ap value_of (kept-all is_ascii_digit (decimal n) (digits_decimal numerals n (omega (arith, small)))) ∙ digits_value-decimal numerals n (omega (arith, small)) in
    rw read (omega (arith, small))

pub weeks-stand : (tables : Option Facts) (rows : List RowView) → weeks_html tables rows ≡ flat_map (week_html tables) rows ++ weeks_end
unfolding weeks_html
weeks-stand tables rows = refl

-- without tables a week has no date
pub undated-is : (row : RowView) → week_html None row ≡ codes "<th scope=col>" ++ (escaped (cell_at row 1) ++ codes "</th>")
unfolding row_html week week_end
undated-is row = ap (λ (t : List ℕ). codes "<th scope=col>" ++ t) (append_assoc (escaped (cell_at row 1)) [] (codes "</th>"))

-- the text of a date is not empty
pub has-text : (years : Bool) (d : Date) → (length (date_text years d) == 0) ≡ false
has-text true d =
    let before : List ℕ = decimal d.day ++ codes " " ++ month_name d.month in
    let year : List ℕ = year_digits (unsigned_abs d.year) in
    let more : length (before ++ codes " ") ≡ length before + 1 = length-append before (codes " ") in
    ne_eqb (length (before ++ codes " " ++ year)) 0 (λ e. omega (arith, e, more, length-append (before ++ codes " ") year))
has-text false d =
    let day : List ℕ = decimal d.day in
    let more : length (day ++ codes " ") ≡ length day + 1 = length-append day (codes " ") in
    ne_eqb (length (day ++ codes " " ++ month_name d.month)) 0 (λ e. omega (arith, e, more, length-append (day ++ codes " ") (month_name d.month)))

-- with them its date is the calendar's
pub date-is : (facts : Facts) (text : List ℕ) (number : ℕ) → AreDates facts.tables.calendar facts.dates → IsInRange 1 facts.tables.calendar.weeks number → facts.tables.calendar.weeks ≤ 104 → text ≡ decimal number
    → (date : Date) × (week_of facts.tables.calendar date ≡ Some number) × (date_in (Some facts) text ≡ date_text (has_years facts.tables.calendar) date)
date-is facts text number are within most is =
    let own = are.each number within in
    let read : amount text ≡ number = ap amount is ∙ amount-decimal number (omega (arith, within.1, most)) in
    (own.date, week_of-first_day facts.tables.calendar own.date number within own.day, ap (in_week facts.dates) read ∙ own.shown)

pub dated-is : (facts : Facts) (row : RowView) (number : ℕ) → AreDates facts.tables.calendar facts.dates → IsInRange 1 facts.tables.calendar.weeks number → facts.tables.calendar.weeks ≤ 104 → cell_at row 1 ≡ decimal number
    → (date : Date) × (week_of facts.tables.calendar date ≡ Some number) × (week_html (Some facts) row ≡ row_html week row ++ ((codes "<br><small>" ++ (escaped (date_text (has_years facts.tables.calendar) date) ++ codes "</small>")) ++ week_end))
unfolding date_open date_end
dated-is facts row number are within most is =
    let (date, falls, shown) = date-is facts (cell_at row 1) number are within most is in
    let text : List ℕ = date_text (has_years facts.tables.calendar) date in
    let below : date_html text ≡ codes "<br><small>" ++ (escaped text ++ codes "</small>") = rw (has-text (has_years facts.tables.calendar) date) refl in
    (date, falls, ap (λ (t : List ℕ). row_html week row ++ (date_html t ++ week_end)) shown ∙ ap (λ (t : List ℕ). row_html week row ++ (t ++ week_end)) below)
