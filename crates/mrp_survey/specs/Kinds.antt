-- What cells have to be, and what they are read as, or the number of the fault (profile).
use Rattle.std.specs.Prelude.{ℕ, ◌==◌, if◌then◌else◌, nat_eq, position, List, [], ◌∷◌, codes, Option, Some, None, Result, Ok, Err}
use Rattle.std.specs.Cmp.Lexicographic.{pointwise}
use Rattle.std.specs.List.{list_any}
use Rattle.std.specs.Result.{result_err, result_ok}
use Rattle.mrp_qty.specs.Reading.{◌>>=◌}
use Rattle.jiff.specs.Types.{Date}
use Rattle.mrp_cal.specs.Calendar.{is_monday}
use Rattle.mrp_cal.specs.DateText.{date_of}
use Rattle.mrp_rows.specs.declared.faults.TheConstants as faults
use Rattle.mrp_rows.specs.Cell.{date_cell, name_of, number_cell, word_of}
use Rattle.mrp_rows.specs.Name.{name_in}
use Rattle.mrp_tables.specs.Calendar.{are_flags}
use Rattle.mrp_tables.specs.Items.{class_words}
use Rattle.mrp_tables.specs.Limits.{call_words, lot_words}
use Rattle.mrp_tables.specs.Versions.{kind_words}
use Rattle.mrp_survey.specs.declared.kind.Kind.{Kind}
use Rattle.mrp_survey.specs.declared.kind.Kind.TheVariants as kind
use Rattle.mrp_survey.specs.declared.kind.Words.{Words}
use Rattle.mrp_survey.specs.declared.kind.Words.TheVariants as words

-- the words, in the order of their places
abbrev pub words_in : Words → List (List ℕ)
words_in words.Version = codes "version" ∷ []
words_in words.Start = codes "start" ∷ []
words_in words.Weeks = codes "weeks" ∷ []
words_in words.Workdays = codes "workdays" ∷ []
words_in words.Holiday = codes "holiday" ∷ []
words_in words.Classes = class_words
words_in words.LotRules = lot_words
words_in (words.RowKinds version) = kind_words version
words_in words.Calls = call_words

-- the place of a cell among words
abbrev pub place_among : Words → List ℕ → Option ℕ
place_among among cell = position (pointwise nat_eq cell) (words_in among)

-- a date that is a Monday, or RANGE
abbrev pub monday_cell : List ℕ → Result Date ℕ
monday_cell cell = date_cell cell >>= λ date. if is_monday date then Ok date else Err faults.RANGE

-- seven flags, or WORD; one of them 1, or RANGE
abbrev pub workdays_fault : List ℕ → Option ℕ
workdays_fault cell =
    if are_flags cell then (if list_any (λ byte. byte == 49) cell then None else Some faults.RANGE) else Some faults.WORD

-- the number of the fault of a cell that is not of its kind
abbrev pub wrong : Kind → List ℕ → Option ℕ
wrong kind.Unread cell = None
wrong kind.Name cell = result_err (name_of cell)
wrong (kind.Number least most) cell = result_err (number_cell least most cell)
wrong kind.Date cell = result_err (date_cell cell)
wrong kind.Monday cell = result_err (monday_cell cell)
wrong kind.Workdays cell = workdays_fault cell
wrong (kind.Word among) cell = result_err (word_of (words_in among) cell)

-- a right cell's name
abbrev pub name_by : Kind → List ℕ → Option (List ℕ)
name_by kind.Name cell = name_in cell
name_by kind.Unread cell = None
name_by (kind.Number least most) cell = None
name_by kind.Date cell = None
name_by kind.Monday cell = None
name_by kind.Workdays cell = None
name_by (kind.Word among) cell = None

-- a right cell's number
abbrev pub number_by : Kind → List ℕ → Option ℕ
number_by (kind.Number least most) cell = result_ok (number_cell least most cell)
number_by kind.Unread cell = None
number_by kind.Name cell = None
number_by kind.Date cell = None
number_by kind.Monday cell = None
number_by kind.Workdays cell = None
number_by (kind.Word among) cell = None

-- a right cell's date
abbrev pub date_by : Kind → List ℕ → Option Date
date_by kind.Date cell = date_of cell
date_by kind.Unread cell = None
date_by kind.Name cell = None
date_by (kind.Number least most) cell = None
date_by kind.Monday cell = None
date_by kind.Workdays cell = None
date_by (kind.Word among) cell = None

-- the place of a right cell's word
abbrev pub word_by : Kind → List ℕ → Option ℕ
word_by (kind.Word among) cell = place_among among cell
word_by kind.Unread cell = None
word_by kind.Name cell = None
word_by (kind.Number least most) cell = None
word_by kind.Date cell = None
word_by kind.Monday cell = None
word_by kind.Workdays cell = None
