-- What a cell has to be, in words (profile).
use Rattle.std.specs.Prelude.{ℕ, List, ◌++◌, codes, Option, Some, None}
use Rattle.jiff.specs.Types.{Date}
use Rattle.jiff.specs.Words.{date_text}
use Rattle.mrp_cal.specs.DateText.{date_of}
use Rattle.mrp_rows.specs.declared.fault.Table.{Table}
use Rattle.mrp_tables.specs.declared.version.Version.{Version}
use Rattle.mrp_tables.specs.declared.version.Version.TheVariants.{One, Two, Three}
use Rattle.mrp_survey.specs.declared.kind.Kind.{Kind}
use Rattle.mrp_survey.specs.declared.kind.Kind.TheVariants as kind
use Rattle.mrp_survey.specs.declared.kind.Words.{Words}
use Rattle.mrp_survey.specs.declared.kind.Words.TheVariants as words
use Rattle.mrp_advice.specs.Dates.{monday_before}
use Rattle.mrp_advice.specs.Measures.{limits_words, measure_of}

abbrev pub row_kinds : Version → List ℕ
row_kinds One = codes "firm or forecast"
row_kinds Two = codes "firm or forecast"
row_kinds Three = codes "firm, forecast or service"

-- words of which a cell has to be one
abbrev pub among_words : Words → List ℕ
among_words words.Version = codes "version"
among_words words.Start = codes "start"
among_words words.Weeks = codes "weeks"
among_words words.Workdays = codes "workdays"
among_words words.Holiday = codes "holiday"
among_words words.Classes = codes "master or part"
among_words words.LotRules = codes "lfl, fixed or period"
among_words (words.RowKinds version) = row_kinds version
among_words words.Calls = codes "book, cancel, ask, when or run"

-- a Monday: that before a date, or any
abbrev pub monday_words : Option Date → List ℕ
monday_words (Some date) = codes "a Monday, as " ++ date_text (monday_before date)
monday_words None = codes "a Monday, as 2025-01-06"

-- what a cell of a kind has to be; one that is not read may be anything
abbrev pub kind_words : Version → Table → ℕ → Kind → List ℕ → List ℕ
kind_words version table column kind.Unread cell = codes "any cell"
kind_words version table column kind.Name cell = codes "a name of 1 to 32 printable ASCII characters"
kind_words version table column (kind.Number least most) cell = limits_words (measure_of version table column least most) least most
kind_words version table column kind.Date cell = codes "a date as 2025-01-20"
kind_words version table column kind.Monday cell = monday_words (date_of cell)
kind_words version table column kind.Workdays cell = codes "seven of 0 and 1 from Monday, as 1111100, kept as text"
kind_words version table column (kind.Word among) cell = among_words among
