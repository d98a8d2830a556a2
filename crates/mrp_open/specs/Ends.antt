-- How an order desk on a folder ends (profile).
use Rattle.std.specs.Prelude.{ℕ, ◌≡◌, ◌⊎◌, true, IsTrue, List, Option, None, length, option_map, string_bytes}
use Rattle.mrp_rows.specs.declared.told.Told.{Told}
use Rattle.mrp_rows.specs.Told.{calls_of, failures_of, inner_of, interrupted_of}
use Rattle.mrp_rows.specs.declared.streams.TheConstants.{WRITE_TRIES}
use Rattle.mrp_tables.specs.Tables.{Tables}
use Rattle.mrp_report.specs.Taken.{HasTakenAll}
use Rattle.mrp_report.specs.Written.{HasGivenUp, HasTakenFront}
use Rattle.mrp_script.specs.Script.{script_of}
use Rattle.mrp_words.specs.Folder.{Known}
use Rattle.mrp_journal.specs.Held.{Held, settled}
use Rattle.mrp_journal.specs.Journal.{begun}
use Rattle.mrp_calls.specs.Desk.{Desk}
use Rattle.mrp_commands.specs.Telling.{words_of}
use Rattle.mrp_commands.specs.declared.ending.Ending.{Ending}
use Rattle.mrp_commands.specs.declared.ending.Ending.TheVariants as ending
use Rattle.mrp_open.specs.Opening.{FailsToServe, FailsToWrite, HasFailed, IsInUse, IsUntouched, Opening}
use Rattle.mrp_open.specs.Runs.{unknown}
use Rattle.mrp_open.specs.Served.{MakesUp, Stand, source_of}
use Rattle.mrp_open.specs.Start.{AnswersJournal, AreUnchanged, FailsToOpen, HasOtherSum, IsPrepared, TakesNoMore, cut_number, cut_text}
use Rattle.mrp_open.specs.declared.finding.Found.{Found}

-- the journal of a folder as it is begun, durable, as far as its file was known
abbrev pub begun_held : Found → Option Held → Option Held
begun_held found left = option_map (λ (h : Held). settled (begun found.script.items found.header.now)) left

-- a desk with its output, whose journal is a file of the operating system, of which so many calls failed
abbrev pub on_disk : {W : Type 0} → (W → Option (List ℕ)) → Desk → ℕ → Told W → Stand
on_disk contents desk failures output = record {
  desk = desk;
  journal = None;
  journal_failures = failures;
  output = contents (inner_of output);
  output_calls = calls_of output;
  output_failures = failures_of output;
  output_interrupted = interrupted_of output;
}

-- a text was written to a stream, or a prefix of it
abbrev pub IsTold : {E : Type 0} → (E → Option (List ℕ)) → Told E → Told E → List ℕ → Type 0
IsTold contents old new text = HasTakenAll contents old new text ⊎ (HasGivenUp old new WRITE_TRIES × HasTakenFront contents old new text)

-- two texts are told, one after the other
pub record TellsBoth {E : Type 0} (contents : E → Option (List ℕ)) (old new : Told E) (one two : List ℕ) : Type 0 where
  pub between : Told E
  pub first : IsTold contents old between one
  pub second : IsTold contents between new two

-- the record that half a line of a journal with so many records would have been, if there is one
abbrev pub cut_of : Found → ℕ → Option ℕ
cut_of found records = cut_number found.script.items found.header.now records

-- what an order desk tells that answered lines: half a line that was cut off, if there was one, and then how it ended
abbrev pub TellsEnd : {E : Type 0} → (E → Option (List ℕ)) → Told E → Told E → Option ℕ → Ending → Type 0
TellsEnd contents old new cut end = TellsBoth contents old new (cut_text cut) (words_of end)

-- the calls of the journal of a folder that was prepared were answered, from unchanged tables; then its runs without files
-- were handed over, and lines of the input answered, by a desk whose journal and runs are the operating system's
pub record ServesPrepared {R W E : Type 0} (known : Known) (folder : List ℕ) (found : Found) (tables : Tables) (remaining : R → Option (List ℕ)) (contents : W → Option (List ℕ)) (heard : E → Option (List ℕ))
    (input read : Told R) (output written : Told W) (errors told : Told E) (end : Ending) : Type 0 where
  pub takes : IsTrue found.takes_records
  pub old : Desk
  pub new : Desk
  pub sound : ℕ
  pub failed : ℕ
  pub answers : AnswersJournal tables found.room old
  pub unchanged : AreUnchanged known folder (length old.entries) (string_bytes found.sum)
  pub serves : MakesUp known folder (source_of remaining input) (source_of remaining read) (on_disk contents old sound output) (on_disk contents new failed written) unknown unknown end
  pub tells : TellsEnd heard errors told (cut_of found (length old.entries)) end

-- a folder was locked, its shop was opened, its names are durable, and then lines of the input were answered; it ends by a failed
-- write only where a call of the journal or of the output has failed
pub record IsServed {R W E : Type 0} (before opened : Opening) (known : Known) (folder : List ℕ) (remaining : R → Option (List ℕ)) (contents : W → Option (List ℕ)) (heard : E → Option (List ℕ))
    (input read : Told R) (output written : Told W) (errors told : Told E) (end : Ending) : Type 0 where
  pub held : opened.is_held ≡ true
  pub lasting : opened.is_lasting ≡ true
  pub found : Found
  pub tables : Tables
  pub prepared : IsPrepared known folder found tables
  pub serves : ServesPrepared known folder found tables remaining contents heard input read output written errors told end
  pub fails : FailsToServe before opened output written end

-- a folder is in use, as another desk has its lock; or it or a stream can't be opened, as a call failed
abbrev pub IsBarred : Opening → Opening → Ending → Type 0
IsBarred before opened end = ((end ≡ ending.InUse) × IsInUse before opened) ⊎ ((end ≡ ending.Read) × HasFailed before opened)

-- why the journal of a folder is not begun whose shop was opened: it takes no more records, its tables have another sum, it
-- can't be written, as a call has failed, or there was no memory
abbrev pub FailsToBegin : Opening → Opening → Known → List ℕ → Found → Tables → Ending → Type 0
FailsToBegin before opened known folder found tables end =
    TakesNoMore tables found.takes_records end
    ⊎ (IsTrue found.takes_records × (HasOtherSum known folder (length (script_of tables)) (string_bytes found.sum) end ⊎ ((end ≡ ending.Write) × FailsToWrite before opened)))

-- the shop of a folder was opened, and its journal is not begun
abbrev pub IsUnbegun : Opening → Opening → Known → List ℕ → Ending → Type 0
IsUnbegun before opened known folder end = (found : Found) × (tables : Tables) × IsPrepared known folder found tables × FailsToBegin before opened known folder found tables end

-- why an order desk on a folder that was locked answers nothing
pub record FailsWithLock (before opened : Opening) (known : Known) (folder : List ℕ) (end : Ending) : Type 0 where
  pub held : opened.is_held ≡ true
  pub fails : FailsToOpen known folder end ⊎ IsUnbegun before opened known folder end

-- why an order desk on a folder answers nothing, and that its journal is then as it was, unless it could not be written
pub record FailsToStart (before opened : Opening) (known : Known) (folder : List ℕ) (end : Ending) : Type 0 where
  pub untouched : IsUntouched before opened end
  pub fails : IsBarred before opened end ⊎ FailsWithLock before opened known folder end

-- how an order desk ends, and what it tells: with lines that were answered, or before any was read or answered
abbrev pub DeskEnds : Opening → Opening → Known → List ℕ → {R W E : Type 0} → (R → Option (List ℕ)) → (W → Option (List ℕ)) → (E → Option (List ℕ)) → Told R → Told R → Told W → Told W → Told E → Told E → Ending → Type 0
DeskEnds before opened known folder remaining contents heard input read output written errors told end =
    IsServed before opened known folder remaining contents heard input read output written errors told end
    ⊎ ((read ≡ input) × (written ≡ output) × FailsToStart before opened known folder end × IsTold heard errors told (words_of end))
