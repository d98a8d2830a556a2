-- How a day is read, record by record.
use Rattle.std.specs.Prelude.{ℕ, Bool, ◌≡◌, ◌≤◌, ◌⊎◌, List, Option, Some, true, false, nat_le, if◌then◌else◌}
use Rattle.csv.specs.Reading.{AreRecords, Reached, Ready, default_config, is_flexible, reader_config, reader_state, reader_trim, source_of, strip_bom}
use Rattle.csv.specs.declared.error.ErrorKind.{ErrorKind}
use Rattle.csv.specs.declared.error.ErrorKind.TheVariants as kind
use Rattle.csv.specs.declared.parser.State.{State}
use Rattle.csv.specs.declared.parser.State.TheVariants as st
use Rattle.csv.specs.declared.reader.Reader.{Reader}
use Rattle.csv.specs.declared.reader.Trim.TheVariants as trim
use Rattle.mrp_rows.specs.Told.{HasRisenBy, calls_of, counted, failures_of}
use Rattle.mrp_rows.specs.declared.streams.TheConstants.{READ_CALLS}
use Rattle.mrp_rows.specs.declared.told.Told.{Told}
use Rattle.mrp_page.specs.declared.fault.PageFault.{PageFault}
use Rattle.mrp_page.specs.declared.fault.PageFault.TheVariants as fault
use Rattle.mrp_page.specs.Notes.{Noted, has_run, noted_from, notes_of}
use Rattle.mrp_page.specs.Row.{Cells}
use Rattle.mrp_page.specs.declared.spot.Place.{Place}
use Rattle.mrp_lines.specs.Taken.{AreRecordsOf, BeginsWith, IsTaken}
use Rattle.mrp_page.specs.Spot.{Names, is_end, is_wrong, place_from, place_of}

-- a reader with the default dialect, for records with any number of cells, that can read on
pub record IsReading {R : Type 0} (reader : Reader R) : Type 0 where
  pub config : reader_config reader ≡ default_config
  pub trim : reader_trim reader ≡ trim.None
  pub flexible : is_flexible reader ≡ true
  pub ready : Ready reader

-- the fault for an error of an input: `Read` if it stopped, otherwise `NoMemory`
abbrev pub stopped_as : Bool → PageFault
stopped_as stopped = if stopped then fault.Read else fault.NoMemory

-- the fault for an error of a reader of records: `Read` if the input underneath stopped, otherwise `NoMemory`
abbrev pub told_as : ErrorKind → Bool → PageFault
told_as (kind.Io error) stopped = stopped_as stopped
told_as _ stopped = fault.NoMemory

-- a count has risen by so many, up to the greatest count
abbrev pub has_risen_by : ℕ → ℕ → ℕ → Bool
has_risen_by count before after = nat_le (counted count before) after

-- a reader failed, or took all calls that a day may take
abbrev pub HasStopped : {R : Type 0} → Told R → Told R → Type 0
HasStopped before after = HasRisenBy 1 (failures_of before) (failures_of after) ⊎ HasRisenBy READ_CALLS (calls_of before) (calls_of after)

-- no read of a reader failed
abbrev pub HasNotFailed : {R : Type 0} → Told R → Told R → Type 0
HasNotFailed before after = failures_of after ≤ failures_of before

-- no day, a reader that stopped, or out of memory
abbrev pub is_reading_fault : PageFault → Bool
is_reading_fault fault.Shape = true
is_reading_fault fault.NoMemory = true
is_reading_fault fault.Read = true
is_reading_fault _ = false

abbrev pub is_write_fault : PageFault → Bool
is_write_fault fault.Write = true
is_write_fault _ = false

-- a text has records of which this holds
abbrev pub HasRecords : List ℕ → (List Cells → Type 0) → Type 0
HasRecords text P = (records : List Cells) × AreRecordsOf text records × P records

-- the first records of a text are those of no day
abbrev pub HasWrongFront : List ℕ → Type 0
HasWrongFront text = (records : List Cells) × BeginsWith text records × (is_wrong (place_of records) ≡ true)

-- a text is no day: by its first records, or since it ends where no day does
abbrev pub IsNoDay : List ℕ → Type 0
IsNoDay text = HasWrongFront text ⊎ HasRecords text (λ records. is_end (place_of records) ≡ false)

-- a text is a day, and has fewer runs than the number asked for
abbrev pub LacksRun : Names → Option ℕ → List ℕ → Type 0
LacksRun items asked text = HasRecords text (λ records. (is_end (place_of records) ≡ true) × (has_run asked (notes_of items asked records).spot.run ≡ false))

-- a text is a day, and this is kept of it
pub record IsDayOf (items : Names) (asked : Option ℕ) (records : List Cells) (notes : Noted) : Type 0 where
  pub kept : notes ≡ notes_of items asked records
  pub day : is_end (place_of records) ≡ true
  pub run : has_run asked notes.spot.run ≡ true

abbrev pub IsKeptOf : Names → Option ℕ → List ℕ → Noted → Type 0
IsKeptOf items asked text notes = HasRecords text (λ records. IsDayOf items asked records notes)

-- what is kept once lines were taken off a text: then comes what is left, with this in front
pub record HasTaken (text : List ℕ) (items : Names) (asked : Option ℕ) (left : Option (List ℕ)) (front : List ℕ) (before notes : Noted) : Type 0 where
  pub records : List Cells
  pub rest : List ℕ
  pub taken : IsTaken text records front rest
  pub source : left ≡ Some rest
  pub noted : notes ≡ noted_from items asked before records

-- the first records of a text stand in no day after what was read before
abbrev pub HasWrongRecord : Place → List ℕ → Type 0
HasWrongRecord here text = (records : List Cells) × BeginsWith text records × (is_wrong (place_from here records) ≡ true)

-- the first records of a text were read, and this is kept with them
pub record HasRead {R : Type 0} (remaining : R → Option (List ℕ)) (text : List ℕ) (items : Names) (asked : Option ℕ) (reader : Reader R) (before notes : Noted) : Type 0 where
  pub records : List Cells
  pub rest : List ℕ
  pub reached : Reached default_config st.StartRecord (strip_bom text) records (reader_state reader) rest
  pub source : source_of remaining reader ≡ Some rest
  pub noted : notes ≡ noted_from items asked before records
