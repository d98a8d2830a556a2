-- The records of a table's text: those that csv gives for it with its default dialect, of any count of cells (profile).
use Rattle.std.specs.Prelude.{ℕ, List, [], ◌∷◌, ◌++◌, if◌then◌else◌}
use Rattle.csv.specs.Machine.{step, is_end, fields_after, field_after, ends_at_end}
use Rattle.csv.specs.Reading.{default_config, strip_bom}
use Rattle.csv.specs.declared.parser.State.{State}
use Rattle.csv.specs.declared.parser.State.TheVariants as st

-- the records of the remaining bytes, in a state of csv's machine, with the cells and the bytes of the current record
unfoldable pub records_in : State → List (List ℕ) → List ℕ → List ℕ → List (List (List ℕ))
records_in s cells cell [] = if ends_at_end s then (cells ++ (cell ∷ [])) ∷ [] else []
records_in s cells cell (byte ∷ rest) =
    if is_end (step default_config s byte).1 then fields_after (step default_config s byte).1 cells cell ∷ records_in (step default_config s byte).0 [] [] rest
    else records_in (step default_config s byte).0 (fields_after (step default_config s byte).1 cells cell) (field_after (step default_config s byte).1 byte cell) rest

-- the records of a text, the header first; a leading byte order mark is not part of them
abbrev pub records_of : List ℕ → List (List (List ℕ))
records_of text = records_in st.StartRecord [] [] (strip_bom text)
