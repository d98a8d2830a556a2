-- Why a cell is not of its kind (profile).
use Rattle.std.specs.Prelude.{ℕ, ◌==◌, ◌&&◌, ◌||◌, nat_eq, if◌then◌else◌, is_ok, Bool, List, ◌++◌, codes, decimal, drop, length, slice_index, take}
use Rattle.std.specs.Char.{is_ascii_digit}
use Rattle.std.specs.List.{ends_with, list_all, starts_with}
use Rattle.mrp_qty.specs.Digits.{number_of}
use Rattle.mrp_rows.specs.declared.faults.TheConstants.{RANGE}
use Rattle.mrp_survey.specs.declared.kind.Kind.{Kind}
use Rattle.mrp_survey.specs.declared.kind.Kind.TheVariants as kind
use Rattle.mrp_survey.specs.declared.kind.Words.{Words}
use Rattle.mrp_survey.specs.declared.kind.Words.TheVariants as words
use Rattle.mrp_advice.specs.declared.cell.Reason.{Reason}
use Rattle.mrp_advice.specs.declared.cell.Reason.TheVariants as reason
use Rattle.mrp_advice.specs.Shown.{is_printable, shown}
use Rattle.mrp_advice.specs.Texts.{of_cell}

-- a space is a cell's first or last byte
abbrev pub has_spaces : List ℕ → Bool
has_spaces cell = starts_with nat_eq cell (codes " ") || ends_with nat_eq cell (codes " ")

abbrev pub are_digits : List ℕ → Bool
are_digits cell = list_all is_ascii_digit cell

-- five digits, as spreadsheets keep a date
abbrev pub is_day_number : List ℕ → Bool
is_day_number cell = (length cell == 5) && are_digits cell

-- ten bytes, the fifth and the eighth a dash
abbrev pub has_dashes : List ℕ → Bool
has_dashes cell = (length cell == 10) && ((slice_index cell 4 == 45) && (slice_index cell 7 == 45))

-- four digits, two and two
abbrev pub has_date_digits : List ℕ → Bool
has_date_digits cell = are_digits (take 4 cell) && (are_digits (take 2 (drop 5 cell)) && are_digits (drop 8 cell))

-- with dashes between
abbrev pub is_like_date : List ℕ → Bool
is_like_date cell = has_dashes cell && has_date_digits cell

abbrev pub name_reason : List ℕ → Reason
name_reason cell =
    if starts_with nat_eq cell (codes "[") then reason.Bracket
    else if list_all is_printable cell then reason.Long
    else reason.Unprintable

abbrev pub date_reason : List ℕ → Reason
date_reason cell =
    if is_day_number cell then reason.DayNumber
    else if is_like_date cell then reason.NoDay
    else reason.NotDate

-- a cell has another form than its kind's; one that is not read is never wrong
abbrev pub form_reason : Kind → List ℕ → Reason
form_reason kind.Unread cell = reason.NotDigits
form_reason kind.Name cell = name_reason cell
form_reason (kind.Number least most) cell = reason.NotDigits
form_reason kind.Date cell = date_reason cell
form_reason kind.Monday cell = date_reason cell
form_reason kind.Workdays cell = reason.NotFlags
form_reason (kind.Word among) cell = reason.NotAmong among

abbrev pub limit_reason : ℕ → List ℕ → Reason
limit_reason most cell = if is_ok (number_of most cell) then reason.TooSmall else reason.TooLarge

-- a cell has the form of its kind, but another value
abbrev pub range_reason : Kind → List ℕ → Reason
range_reason kind.Unread cell = reason.NotDigits
range_reason kind.Name cell = name_reason cell
range_reason (kind.Number least most) cell = limit_reason most cell
range_reason kind.Date cell = date_reason cell
range_reason kind.Monday cell = reason.NotMonday
range_reason kind.Workdays cell = reason.NoWorkday
range_reason (kind.Word among) cell = reason.NotAmong among

-- why a cell of a kind has the fault of this number
abbrev pub reason_of : Kind → ℕ → List ℕ → Reason
reason_of own code cell =
    if code == RANGE then range_reason own cell
    else if length cell == 0 then reason.Empty
    else if has_spaces cell then reason.Spaced
    else form_reason own cell

-- what a cell is not, that is none of these words
abbrev pub not_among : Words → List ℕ
not_among words.Version = codes " is not the key of this row"
not_among words.Start = codes " is not the key of this row"
not_among words.Weeks = codes " is not the key of this row"
not_among words.Workdays = codes " is not the key of this row"
not_among words.Holiday = codes " is not the key of this row"
not_among words.Classes = codes " is not a class"
not_among words.LotRules = codes " is not a lot rule"
not_among (words.RowKinds version) = codes " is not a kind of row"
not_among words.Calls = codes " is not a call"

-- a reason, in words
abbrev pub reason_words : Reason → List ℕ → List ℕ
reason_words reason.Empty cell = codes "the cell is empty"
reason_words reason.Spaced cell = of_cell cell (codes " has spaces round it")
reason_words reason.Bracket cell = of_cell cell (codes " begins with [")
reason_words reason.Long cell = shown cell ++ (codes " has " ++ (decimal (length cell) ++ codes " characters"))
reason_words reason.Unprintable cell = of_cell cell (codes " has a character that is not printable ASCII")
reason_words reason.DayNumber cell = of_cell cell (codes " is a spreadsheet's day number")
reason_words reason.NoDay cell = of_cell cell (codes " is no day from 1900-01-01 to 2999-12-31")
reason_words reason.NotDate cell = of_cell cell (codes " is not a date")
reason_words reason.NotMonday cell = of_cell cell (codes " is no Monday")
reason_words reason.NotFlags cell = of_cell cell (codes " is not seven of 0 and 1")
reason_words reason.NoWorkday cell = of_cell cell (codes " has no workday")
reason_words (reason.NotAmong among) cell = of_cell cell (not_among among)
reason_words reason.NotDigits cell = of_cell cell (codes " is not digits alone")
reason_words reason.TooLarge cell = of_cell cell (codes " is too large")
reason_words reason.TooSmall cell = of_cell cell (codes " is too small")

-- what is said of a wrong cell
abbrev pub cell_words : Kind → ℕ → List ℕ → List ℕ
cell_words own code cell = reason_words (reason_of own code cell) cell
