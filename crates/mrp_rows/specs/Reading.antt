-- How a csv reader over a text reads its records.
use Rattle.std.specs.Prelude.{ℕ, ◌≡◌, List, [], ◌∷◌, Option, Some, None, Result, Ok, Err, true}
use Rattle.std.proofs.Common.{Bor}
use Rattle.csv.specs.Reading.{source_of, Ready, default_config, reader_config, reader_trim, reader_state, is_flexible}
use Rattle.csv.specs.Records.{Row, fields_of}
use Rattle.csv.specs.declared.parser.State.{State}
use Rattle.csv.specs.declared.reader.Reader.{Reader}
use Rattle.csv.specs.declared.reader.Trim.TheVariants as trim
use Rattle.mrp_qty.specs.declared.memory.NoMemory.{NoMemory}
use Rattle.mrp_rows.specs.Records.{records_in}

abbrev pub TextReader : Type 0
TextReader = Reader (Bor (List ℕ))

abbrev pub remaining_of : Bor (List ℕ) → Option (List ℕ)
remaining_of text = Some text.now

-- the records of the remaining bytes, if these are known
abbrev pub records_left : State → Option (List ℕ) → List (List (List ℕ))
records_left s None = []
records_left s (Some bytes) = records_in s [] [] bytes

-- the remaining records of a reader
abbrev pub records_after : TextReader → List (List (List ℕ))
records_after reader = records_left (reader_state reader) (source_of remaining_of reader)

-- a reader with the default dialect, for records of any count of cells, that is not done
pub record IsReading (reader : TextReader) : Type 0 where
  pub config : reader_config reader ≡ default_config
  pub trim : reader_trim reader ≡ trim.None
  pub flexible : is_flexible reader ≡ true
  pub ready : Ready reader
  pub known : (bytes : List ℕ) × (source_of remaining_of reader ≡ Some bytes)

-- the next record's cells, or none at the end
abbrev pub ReadsCells : TextReader → Result (Option Row) NoMemory → TextReader → Type 0
ReadsCells old (Ok None) new = records_after old ≡ []
ReadsCells old (Ok (Some cells)) new = (records_after old ≡ fields_of cells ∷ records_after new) × IsReading new
ReadsCells old (Err refused) new = Unit {0}
