-- What a record's cells are read as.
use Rattle.std.specs.Prelude.{ℕ, ◌&&◌, Bool, List, drop, Option}
use Rattle.jiff.specs.Types.{Date}
use Rattle.mrp_rows.specs.Shown as shown
use Rattle.mrp_survey.specs.declared.kind.Kind.{Kind}
use Rattle.mrp_survey.specs.Entry.{Entry}
use Rattle.mrp_survey.specs.Forms.{Row, cell_in, kind_of}
use Rattle.mrp_survey.specs.Kinds.{date_by, name_by, number_by, word_by, wrong}

-- of which kind a cell has to be
abbrev pub kind_in : Entry → ℕ → Kind
kind_in entry column = kind_of entry.form entry.place.number entry.row column

-- the number of the fault of a cell that is not of its kind
abbrev pub wrong_in : Entry → ℕ → Option ℕ
wrong_in entry column = wrong (kind_in entry column) (cell_in entry.row column)

-- a right cell's name, number, date, or the place of its word
abbrev pub name_in : Entry → ℕ → Option (List ℕ)
name_in entry column = name_by (kind_in entry column) (cell_in entry.row column)

abbrev pub number_in : Entry → ℕ → Option ℕ
number_in entry column = number_by (kind_in entry column) (cell_in entry.row column)

abbrev pub date_in : Entry → ℕ → Option Date
date_in entry column = date_by (kind_in entry column) (cell_in entry.row column)

abbrev pub word_in : Entry → ℕ → Option ℕ
word_in entry column = word_by (kind_in entry column) (cell_in entry.row column)

-- all cells are empty, from a column on that is kept or the first that is not
abbrev pub are_empty_from : Row → ℕ → Bool
are_empty_from row column = shown.are_empty (drop column row.first) && row.are_others_empty

-- all cells are empty
abbrev pub are_empty : Row → Bool
are_empty row = shown.are_empty row.first && row.are_others_empty
