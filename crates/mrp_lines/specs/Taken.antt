-- Records that were taken off a text.
use Rattle.std.specs.Prelude.{ℕ, true, ◌≡◌, ◌⊎◌, ◌<◌, ◌++◌, List, [], ◌∷◌}
use Rattle.csv.specs.Machine.{next_record}
use Rattle.csv.specs.Reading.{AreRecords, Reached, default_config, strip_bom}
use Rattle.csv.specs.declared.parser.State.{State}
use Rattle.csv.specs.declared.parser.State.TheVariants as st
use Rattle.mrp_lines.specs.declared.line.TheConstants.{LONGEST_LINE}
use Rattle.mrp_lines.specs.Lines.{have_ends, size_of}

-- all records of a text, by the definition of csv
abbrev pub AreRecordsOf : List ℕ → List (List (List ℕ)) → Type 0
AreRecordsOf text records = AreRecords default_config st.StartRecord (strip_bom text) records

-- these are the first records of a text
abbrev pub BeginsWith : List ℕ → List (List (List ℕ)) → Type 0
BeginsWith text records = (state : State) × (rest : List ℕ) × Reached default_config st.StartRecord (strip_bom text) records state rest

-- from here csv reads the same record, or none, as from there
abbrev pub AreAlike : State → List ℕ → State → List ℕ → Type 0
AreAlike s xs t ys = next_record default_config s [] [] xs ≡ next_record default_config t [] [] ys

-- these records were taken off a text, after which csv reads on as in what is left with this in front: nothing, or a line
-- feed, which csv skips, so that no byte order mark stands at the start
pub record IsTaken (text : List ℕ) (records : List (List (List ℕ))) (front rest : List ℕ) : Type 0 where
  pub state : State
  pub left : List ℕ
  pub reached : Reached default_config st.StartRecord (strip_bom text) records state left
  pub alike : AreAlike state left st.StartRecord (strip_bom (front ++ rest))
  pub front_is : (front ≡ []) ⊎ (front ≡ 10 ∷ [])

-- of the records that csv read of the lines behind these, one has the end of a line in a cell; another such one is in its place
-- in the text
pub record HasBroken (text : List ℕ) (records rows : List (List (List ℕ))) : Type 0 where
  pub before : List (List (List ℕ))
  pub broken : List (List ℕ)
  pub behind : List (List (List ℕ))
  pub here : rows ≡ before ++ (broken ∷ behind)
  pub breaks : have_ends broken ≡ true
  pub other : List (List ℕ)
  pub begins : BeginsWith text (records ++ (before ++ (other ∷ [])))
  pub there : have_ends other ≡ true

-- the record behind these is too long for a line
pub record HasLong (text : List ℕ) (records : List (List (List ℕ))) : Type 0 where
  pub row : List (List ℕ)
  pub begins : BeginsWith text (records ++ (row ∷ []))
  pub long : LONGEST_LINE < size_of row
