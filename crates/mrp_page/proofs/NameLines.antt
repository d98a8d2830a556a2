-- The names of a line, from what csv reads of it.
use Rattle.std.proofs.Common.{◌≡◌, ℕ, Bool, true, false, List, [], Option, Some, None, refl, sym}
use Rattle.csv.specs.Machine.{next_record}
use Rattle.csv.specs.Reading.{Reached, ReadRecord, default_config, reader_config, reader_state, source_of, strip_bom}
use Rattle.csv.specs.declared.parser.State.TheVariants as st
use Rattle.csv.specs.declared.reader.Reader.{Reader}
use Rattle.csv.proofs.ReadFacts.{rows-end, rows-more}
use Rattle.mrp_page.specs.Names.{names_of, record_names}

-- a record was read
names-found : {R : Type 0} (remaining : R → Option (List ℕ)) (line : List ℕ) (a b : Reader R) (cells : List (List ℕ)) → reader_config a ≡ default_config → reader_state a ≡ st.StartRecord
    → source_of remaining a ≡ Some (strip_bom line) → ReadRecord remaining a b true cells → cells ≡ names_of line
unfolding Reached
names-found remaining line a b cells config state source read =
    let (rest, left, reached) = rows-more remaining a b cells default_config st.StartRecord (strip_bom line) (strip_bom line) [] config source (sym state, refl) read in
    let (p, next, is, after) = reached in
    rw next is

-- there is none
names-none : {R : Type 0} (remaining : R → Option (List ℕ)) (line : List ℕ) (a b : Reader R) (cells : List (List ℕ)) → reader_config a ≡ default_config → reader_state a ≡ st.StartRecord
    → source_of remaining a ≡ Some (strip_bom line) → ReadRecord remaining a b false cells → [] ≡ names_of line
names-none remaining line a b cells config state source read =
    let none = rows-end remaining a b cells default_config (strip_bom line) config source read in
    let begun : next_record default_config st.StartRecord [] [] (strip_bom line) ≡ None = rw (← state) none in
    rw begun refl

-- what was read are the names of the line
pub names-are : {R : Type 0} (remaining : R → Option (List ℕ)) (line : List ℕ) (a b : Reader R) (found : Bool) (cells : List (List ℕ)) → reader_config a ≡ default_config
    → reader_state a ≡ st.StartRecord → source_of remaining a ≡ Some (strip_bom line) → ReadRecord remaining a b found cells → record_names found cells ≡ names_of line
names-are remaining line a b true cells config state source read = names-found remaining line a b cells config state source read
names-are remaining line a b false cells config state source read = names-none remaining line a b cells config state source read
