-- What an order desk finds at its start, and why it does not open (profile).
use Rattle.std.specs.Prelude.{ℕ, Bool, false, ◌≡◌, ◌≢◌, ◌≤◌, ◌<◌, ◌+◌, ◌-◌, ◌==◌, ◌⊎◌, ◌↔◌, IsTrue, if◌then◌else◌, List, [], ◌∷◌, ◌++◌, Option, Some, None, codes, decimal, length, string_bytes}
use Rattle.std.specs.List.{All}
use Rattle.std.specs.Path.{path_join}
use Rattle.mrp_rows.specs.declared.fault.Fault.{Fault}
use Rattle.mrp_rows.specs.declared.fault.Table.TheVariants as t
use Rattle.mrp_rows.specs.declared.streams.TheConstants.{GREATEST_BUNDLE}
use Rattle.mrp_rows.specs.Joined.{Part, joined}
use Rattle.mrp_rows.specs.Next.{columns_fault}
use Rattle.mrp_journal.specs.Journal.{begun}
use Rattle.mrp_journal.specs.Lines.{whole_lines}
use Rattle.mrp_journal.specs.Table.{TakesRecords, header_for}
use Rattle.mrp_tables.specs.Tables.{Tables}
use Rattle.mrp_master.specs.Supply.{supply_of}
use Rattle.mrp_book.specs.History.{IsLegal, asked}
use Rattle.mrp_script.specs.Opened.{IsAccepted, IsRefused}
use Rattle.mrp_script.specs.Script.{script_of}
use Rattle.mrp_words.specs.Folder.{AreParts, HasTooMuch, IsAt, IsTooLongAt, Known}
use Rattle.mrp_calls.specs.Desk.{Desk}
use Rattle.mrp_commands.specs.Refusal.{TellsFault}
use Rattle.mrp_commands.specs.declared.ending.Ending.{Ending}
use Rattle.mrp_commands.specs.declared.ending.Ending.TheVariants as ending
use Rattle.mrp_open.specs.Sum.{sum_text}
use Rattle.mrp_open.specs.declared.finding.Found.{Found}
use Rattle.mrp_open.specs.declared.start.TheConstants.{MOST_SUM}

-- the tables beside the script, and the bytes of the script's file, none where there is no such file
pub record IsSplit (parts others : List Part) (script : List ℕ) : Type 0 where
  pub no_script : All (λ (part : Part). part.0 ≢ t.Script) others
  pub is : (parts ≡ others ++ (t.Script, script) ∷ []) ⊎ ((parts ≡ others) × (script ≡ []))

-- the journal as it will stand: the whole lines of its file, and the header where no record is left there
abbrev pub journal_of : List ℕ → List ℕ
journal_of script = begun script (header_for (whole_lines script))

-- the bundle of the tables with that journal
abbrev pub bundle_with : List Part → List ℕ → List ℕ
bundle_with others script = joined (others ++ (t.Script, journal_of script) ∷ [])

-- the last of these parts, if there is one, is not the script
abbrev pub EndsWithout : List Part → Type 0
EndsWithout parts = (parts ≡ []) ⊎ ((front : List Part) × (part : Part) × (parts ≡ front ++ part ∷ []) × (part.0 ≢ t.Script))

-- the script is taken from the end of parts, if it is there
abbrev pub TakesScript : List Part → List Part → List ℕ → Type 0
TakesScript old new script = (old ≡ new ++ (t.Script, script) ∷ []) ⊎ ((new ≡ old) × (script ≡ []) × EndsWithout old)

-- what is found, by the tables beside the script and its bytes, and the bundle of all with the journal as it will stand
pub record IsFoundOf (others : List Part) (script : List ℕ) (found : Found) (bundle : List ℕ) : Type 0 where
  pub script_is : found.script.items ≡ script
  pub header_is : found.header.now ≡ header_for (whole_lines script)
  pub takes_is : IsTrue found.takes_records ↔ TakesRecords (journal_of script)
  pub sum_is : string_bytes found.sum ≡ sum_text others
  pub bundle_is : bundle ≡ bundle_with others script
  pub room_is : found.room ≡ GREATEST_BUNDLE - length bundle

-- what a folder has at a start, and its bundle
pub record HasFound (known : Known) (folder : List ℕ) (found : Found) (bundle : List ℕ) : Type 0 where
  pub parts : List Part
  pub others : List Part
  pub script : List ℕ
  pub are : AreParts known folder parts
  pub split : IsSplit parts others script
  pub of : IsFoundOf others script found bundle
  pub fits : length bundle ≤ GREATEST_BUNDLE

-- a folder's bundle is accepted, with these tables
abbrev pub IsPrepared : Known → List ℕ → Found → Tables → Type 0
IsPrepared known folder found tables = (bundle : List ℕ) × HasFound known folder found bundle × IsAccepted bundle tables

-- a folder's bundle, or that with its journal as it will stand, is longer than one may be
abbrev pub IsTooLong : Known → List ℕ → Type 0
IsTooLong known folder =
    HasTooMuch known folder ⊎ ((parts others : List Part) × (script : List ℕ) × AreParts known folder parts × IsSplit parts others script × (GREATEST_BUNDLE < length (bundle_with others script)))

-- a bundle is refused, and the end tells its fault; or there was no memory
abbrev pub TellsRefused : List ℕ → Ending → Type 0
TellsRefused bundle end = ((f : Fault) × IsRefused bundle f × TellsFault f end) ⊎ (end ≡ ending.NoMemory)

-- a folder's bundle is refused
abbrev pub IsRefusedStart : Known → List ℕ → Ending → Type 0
IsRefusedStart known folder end = (found : Found) × (bundle : List ℕ) × HasFound known folder found bundle × TellsRefused bundle end

-- the shop of a folder's bundle cannot be opened
abbrev pub FailsToOpen : Known → List ℕ → Ending → Type 0
FailsToOpen known folder end = IsRefusedStart known folder end ⊎ (((end ≡ ending.Read) × IsTooLong known folder) ⊎ (end ≡ ending.NoMemory))

-- the calls of the journal are answered, by a legal history
pub record AnswersJournal (tables : Tables) (room : ℕ) (desk : Desk) : Type 0 where
  pub tables_are : desk.tables ≡ tables
  pub asked_are : asked desk.entries ≡ script_of tables
  pub legal : IsLegal (supply_of tables) desk.entries
  pub room_is : desk.room ≡ room

-- a journal takes no more records, and the end tells that at its last one; or there was no memory
abbrev pub TakesNoMore : Tables → Bool → Ending → Type 0
TakesNoMore tables takes end = ((takes ≡ false) × TellsFault (columns_fault t.Script (length (script_of tables))) end) ⊎ (end ≡ ending.NoMemory)

-- the path of the sum of a folder's tables
abbrev pub sum_path : List ℕ → List ℕ
sum_path folder = path_join folder (codes "desk.tables")

-- the file of the sum has another text, and there are records; or it can't be read, or has more bytes than are read, or
-- there was no memory
abbrev pub HasOtherSum : Known → List ℕ → ℕ → List ℕ → Ending → Type 0
HasOtherSum known folder records sum end =
    ((end ≡ ending.TablesChanged) × (0 < records) × ((text : List ℕ) × IsAt known (sum_path folder) (Some text) × (text ≢ sum)))
    ⊎ (((end ≡ ending.Read) × IsTooLongAt known (sum_path folder) MOST_SUM) ⊎ (end ≡ ending.NoMemory))

-- the records are answered from the tables that they were answered from: there are none, or no sum, or the tables' own
abbrev pub AreUnchanged : Known → List ℕ → ℕ → List ℕ → Type 0
AreUnchanged known folder records sum = (records ≡ 0) ⊎ (IsAt known (sum_path folder) None ⊎ IsAt known (sum_path folder) (Some sum))

-- the record that half a line would have been that is cut off: 0 for the header; none if nothing is
abbrev pub cut_number : List ℕ → List ℕ → ℕ → Option ℕ
cut_number script header records =
    if length (whole_lines script) == length script then None else Some (if length header == 0 then records + 1 else 0)

-- the line that tells it
abbrev pub cut_text : Option ℕ → List ℕ
cut_text None = []
cut_text (Some number) = codes "cut: script " ++ decimal number ++ 10 ∷ []
