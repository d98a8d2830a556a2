-- What is told of a record (profile).
use Rattle.std.specs.Prelude.{ℕ, ◌==◌, ◌&&◌, ◌-◌, Bool, not, if◌then◌else◌, List, [], ◌∷◌, ◌++◌, flat_map, Option, Some, None}
use Rattle.std.specs.List.{range_with_len}
use Rattle.std.specs.Option.{option_to_list}
use Rattle.mrp_survey.specs.declared.finding.What.TheVariants as what
use Rattle.mrp_survey.specs.declared.kind.Kind.{Kind}
use Rattle.mrp_survey.specs.declared.rule.Beside.{Beside}
use Rattle.mrp_survey.specs.Entry.{Entry}
use Rattle.mrp_survey.specs.Entries.{are_empty, kind_in, wrong_in}
use Rattle.mrp_survey.specs.Finding.{Told}
use Rattle.mrp_survey.specs.Forms.{Row}
use Rattle.mrp_survey.specs.Keys.{Key, Keys, with_key}
use Rattle.mrp_survey.specs.Rules.{broken, key_of, rules_of}
use Rattle.mrp_survey.specs.Told.{Mark, told_all}

-- a cell that is not of its kind
abbrev pub cell_mark : ℕ → Kind → Option ℕ → List Mark
cell_mark column own None = []
cell_mark column own (Some code) = (column, what.Cell own code) ∷ []

-- all cells that are not of their kinds, from the left
abbrev pub cell_marks : Entry → List Mark
cell_marks entry = flat_map (λ column. cell_mark column (kind_in entry column) (wrong_in entry column)) (range_with_len 0 entry.row.count)

-- all rules that are broken, in their order
abbrev pub rule_marks : Beside → Keys → Entry → List Mark
rule_marks beside seen entry = flat_map (λ rule. option_to_list (broken beside seen entry rule)) (rules_of entry.form.table)

-- what is wrong with a record of a table with so many columns: empty cells alone, or another count of cells, or the cells from the
-- left and then the rules
abbrev pub marks_of : ℕ → Beside → Keys → Entry → List Mark
marks_of width beside seen entry =
    if are_empty entry.row then (0, what.Blank) ∷ []
    else if entry.row.count == width then cell_marks entry ++ rule_marks beside seen entry
    else (entry.row.count - 1, what.Columns entry.row.count) ∷ []

abbrev pub told_of : Entry → List Mark → List Told
told_of entry marks = told_all entry.place entry.row marks

-- a record has a cell for each column, and not all of them empty
abbrev pub is_whole : ℕ → Row → Bool
is_whole width row = (row.count == width) && not (are_empty row)

-- with what a record has to itself, if anything
abbrev pub with_own : Keys → Option Key → ℕ → Keys
with_own seen (Some key) line = with_key seen key line
with_own seen None line = seen

-- with what a whole record has to itself
abbrev pub keys_after : ℕ → Keys → Entry → Keys
keys_after width seen entry = if is_whole width entry.row then with_own seen (key_of entry) entry.place.line else seen
