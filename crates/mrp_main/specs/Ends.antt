-- How a command ends: what it leaves of its input and its output, and what it writes to its error stream
-- (profile).
use Rattle.std.specs.Prelude.{ℕ, ◌≡◌, ◌≢◌, ◌⊎◌, List, Option, Some, None, Result, Ok, Err, ⊤, option_map, string_bytes}
use Rattle.std.specs.Io.KnownBytes.{IsAtEnd}
use Rattle.mrp_rows.specs.FaultText.{text_of_fault}
use Rattle.mrp_rows.specs.declared.fault.Fault.{Fault}
use Rattle.mrp_rows.specs.declared.faults.TheConstants as faults
use Rattle.mrp_rows.specs.declared.told.Told.{Told}
use Rattle.mrp_rows.specs.declared.streams.ReadFault.{ReadFault}
use Rattle.mrp_rows.specs.declared.streams.ReadFault.TheVariants as read
use Rattle.mrp_rows.specs.declared.streams.TheConstants.{WRITE_TRIES}
use Rattle.mrp_rows.specs.Streams.{TakesFront}
use Rattle.mrp_rows.specs.Told.{inner_of, moved_of}
use Rattle.mrp_report.specs.Taken.{HasTakenAll}
use Rattle.mrp_report.specs.Written.{HasGivenUp, HasTakenFront, HasTakenWhole}
use Rattle.mrp_engine.specs.day.Day.{Answering, IsTooLargeBy}
use Rattle.mrp_script.specs.Opened.{IsRefused}
use Rattle.mrp_script.specs.Script.{AnswersScript}
use Rattle.mrp_engine.specs.day.RightDay.{AnswersDesks}
use Rattle.mrp_engine.specs.day.Run.{HasNotFailed, HasPassedLimits, IsRead, IsReadWithin, TellsDayBy, WritesFrontBy}
use Rattle.mrp_engine.specs.declared.day.fault.DayFault.{DayFault}
use Rattle.mrp_engine.specs.declared.day.fault.DayFault.TheVariants as fault
use Rattle.mrp_words.specs.declared.command.Request.{Request}
use Rattle.mrp_words.specs.declared.command.Request.TheVariants.{Carry, Check, Day, Desk, Inspect, Page}
use Rattle.mrp_words.specs.declared.day.DayCommand.{DayCommand}
use Rattle.mrp_words.specs.declared.day.DayCommand.TheVariants.{Plan, Live}
use Rattle.mrp_words.specs.declared.command.NoRequest.{NoRequest}
use Rattle.mrp_words.specs.declared.command.NoRequest.TheVariants as none
use Rattle.mrp_commands.specs.declared.ending.Ending.{Ending}
use Rattle.mrp_commands.specs.declared.ending.Ending.TheVariants.{Done, InUse, LeftBehind, Refused, TablesChanged, TooLarge, WrongShape, Wrong, NoRun, NoStart, Usage, NoMemory, Read, Write, WrongTables}
use Rattle.mrp_commands.specs.declared.status.Status.TheVariants as status
use Rattle.mrp_commands.specs.Status.{code_of, status_of}
use Rattle.mrp_commands.specs.Telling.{words_of}
use Rattle.mrp_words.specs.Folder.{IsReadFrom, Known, nothing_known}
use Rattle.mrp_commands.specs.PageEnds.{AskedPageEnds}
use Rattle.mrp_commands.specs.Refusal.{TellsFault}
use Rattle.mrp_commands.specs.CarryEnds.{CarryEndsBy}
use Rattle.mrp_main.specs.CheckEnds.{CheckEnds}
use Rattle.mrp_commands.specs.InspectEnds.{InspectEndsIn}
use Rattle.mrp_words.specs.Words.{Asks}
use Rattle.mrp_open.specs.Ends.{DeskEnds, IsTold}
use Rattle.mrp_open.specs.Opening.{Opening, unopened}

-- how a command answers the script: `plan` in row order, `live` desk by desk
abbrev pub answering : DayCommand → Answering
answering Plan = AnswersScript
answering Live = AnswersDesks

-- what a reader had left is a bundle with a fault of this text, which is not out of memory
abbrev pub IsRefusedAs : Option (List ℕ) → List ℕ → Type 0
IsRefusedAs given text = (bundle : List ℕ) × IsRead given bundle × (f : Fault) × IsRefused bundle f × (f.code ≢ faults.NO_MEMORY) × (text ≡ text_of_fault f)

-- what a reader had left is a bundle, a day of which by this command has a plan that gets too large, at the item of
-- this name
abbrev pub IsTooLargeAt : DayCommand → Option (List ℕ) → List ℕ → Type 0
IsTooLargeAt command given name = (bundle : List ℕ) × IsRead given bundle × IsTooLargeBy (answering command) bundle name

-- what a command has written for what was given when it ends: a day, a prefix of one, or nothing; if memory ran out, a
-- prefix only after everything was read; if reading failed, nothing
abbrev pub DayWrites : DayCommand → {W : Type 0} → (W → Option (List ℕ)) → Option (List ℕ) → Type 0 → Type 0 → Told W → Told W → Ending → Type 0
DayWrites command contents given ended failed output written Done = (text : List ℕ) × TellsDayBy (answering command) given text × HasTakenAll contents output written text
DayWrites command contents given ended failed output written (Refused text) = IsRefusedAs given (string_bytes text) × (written ≡ output)
DayWrites command contents given ended failed output written (TooLarge name) = IsTooLargeAt command given name × (written ≡ output)
DayWrites command contents given ended failed output written WrongShape = ⊥
DayWrites command contents given ended failed output written WrongTables = ⊥
DayWrites command contents given ended failed output written InUse = ⊥
DayWrites command contents given ended failed output written TablesChanged = ⊥
DayWrites command contents given ended failed output written Wrong = ⊥
DayWrites command contents given ended failed output written NoRun = ⊥
DayWrites command contents given ended failed output written (LeftBehind text) = ⊥
DayWrites command contents given ended failed output written (NoStart range) = ⊥
DayWrites command contents given ended failed output written (Usage text) = ⊥
DayWrites command contents given ended failed output written NoMemory = (written ≡ output) ⊎ (ended × WritesFrontBy (answering command) contents given output written)
DayWrites command contents given ended failed output written Read = failed × (written ≡ output)
DayWrites command contents given ended failed output written Write = HasGivenUp output written WRITE_TRIES × WritesFrontBy (answering command) contents given output written

-- what a command has written of what the input had left at its end
abbrev pub InputWrites : DayCommand → {R W : Type 0} → (R → Option (List ℕ)) → (W → Option (List ℕ)) → Told R → Told R → Told W → Told W → Ending → Type 0
InputWrites command remaining contents input read output written end =
    DayWrites command contents (remaining (inner_of input)) (IsAtEnd (remaining (inner_of read))) (HasPassedLimits input read) output written end

-- an end after the input was read to its end
abbrev pub HasReadAll : Ending → Type 0
HasReadAll Done = ⊤
HasReadAll (Refused text) = ⊤
HasReadAll (TooLarge name) = ⊤
HasReadAll WrongShape = ⊥
HasReadAll WrongTables = ⊥
HasReadAll InUse = ⊥
HasReadAll TablesChanged = ⊥
HasReadAll Wrong = ⊥
HasReadAll NoRun = ⊥
HasReadAll (LeftBehind text) = ⊥
HasReadAll (NoStart range) = ⊥
HasReadAll (Usage text) = ⊥
HasReadAll NoMemory = ⊥
HasReadAll Read = ⊥
HasReadAll Write = ⊤

-- how a day of the input ends: what was written; whether the input was read to its end, within the limits; a prefix of
-- what the input had left was taken; and it ends out of memory only if neither stream failed
pub record DayEnds {R W : Type 0} (command : DayCommand) (remaining : R → Option (List ℕ)) (contents : W → Option (List ℕ)) (input read : Told R) (output written : Told W) (end : Ending) : Type 0 where
  pub writes : InputWrites command remaining contents input read output written end
  pub at_end : HasReadAll end → IsAtEnd (remaining (inner_of read))
  pub within : HasReadAll end → IsReadWithin input read
  pub unfailed : end ≡ NoMemory → IsReadWithin input read × HasNotFailed output written
  pub taken : TakesFront (remaining (inner_of input)) (remaining (inner_of read)) (moved_of input) (moved_of read)

-- how a day of a bundle that was read ends: with this day, where reading can no longer fail, and out of memory only if
-- the output did not fail; or with what kept the bundle from being read, and nothing was written
abbrev pub BundleEnds : DayCommand → {W : Type 0} → (W → Option (List ℕ)) → Told W → Told W → Result (List ℕ) ReadFault → Ending → Type 0
BundleEnds command contents output written (Ok bundle) end = DayWrites command contents (Some bundle) ⊤ ⊥ output written end × (end ≡ NoMemory → HasNotFailed output written)
BundleEnds command contents output written (Err read.Read) end = (end ≡ Read) × (written ≡ output)
BundleEnds command contents output written (Err read.NoMemory) end = (end ≡ NoMemory) × (written ≡ output)

-- how a day of a folder's files ends: as that of their bundle does
pub record FolderEnds {W : Type 0} (command : DayCommand) (known : Known) (folder : List ℕ) (contents : W → Option (List ℕ)) (output written : Told W) (end : Ending) : Type 0 where
  pub read : Result (List ℕ) ReadFault
  pub is_read : IsReadFrom known folder read
  pub ends : BundleEnds command contents output written read end

-- how a request ends: a day of a folder's files leaves the input as it was; a page and a check are of the day that the
-- input had left; carrying leaves the input as it was; words ask for no check and no order desk without a folder, and one
-- on a folder ends as `IsDoneAs` says
abbrev pub RequestEnds : Known → {R W : Type 0} → (R → Option (List ℕ)) → (W → Option (List ℕ)) → Told R → Told R → Told W → Told W → Request → Ending → Type 0
RequestEnds known remaining contents input read output written (Day command workers None) end = DayEnds command remaining contents input read output written end
RequestEnds known remaining contents input read output written (Day command workers (Some folder)) end = (read ≡ input) × FolderEnds command known (string_bytes folder) contents output written end
RequestEnds known remaining contents input read output written (Page words) end = AskedPageEnds known words (option_map string_bytes words.folder) remaining contents input read output written end
RequestEnds known remaining contents input read output written (Check (Some folder)) end = CheckEnds known (string_bytes folder) remaining contents input read output written end
RequestEnds known remaining contents input read output written (Check None) end = (read ≡ input) × (written ≡ output) × (status_of end ≡ status.Usage)
RequestEnds known remaining contents input read output written (Carry words) end = (read ≡ input) × CarryEndsBy known words contents output written end
RequestEnds known remaining contents input read output written (Inspect folder) end = (read ≡ input) × InspectEndsIn known (option_map string_bytes folder) contents output written end
RequestEnds known remaining contents input read output written (Desk workers folder) end = (read ≡ input) × (written ≡ output) × (status_of end ≡ status.Usage)

-- how help ends: it was written, or a prefix of it
abbrev pub HelpEnds : {W : Type 0} → (W → Option (List ℕ)) → Told W → Told W → List ℕ → Ending → Type 0
HelpEnds contents output written help Done = HasTakenWhole contents output written help
HelpEnds contents output written help Write = HasGivenUp output written WRITE_TRIES × HasTakenFront contents output written help
HelpEnds contents output written help _ = ⊥

-- how a command ends, by what its words ask for; words that ask for nothing leave the input as it
-- was
abbrev pub Ends : Known → {R W : Type 0} → (R → Option (List ℕ)) → (W → Option (List ℕ)) → Told R → Told R → Told W → Told W → Result Request NoRequest → Ending → Type 0
Ends known remaining contents input read output written (Ok request) end = RequestEnds known remaining contents input read output written request end
Ends known remaining contents input read output written (Err (none.Help text)) end = (read ≡ input) × HelpEnds contents output written (string_bytes text) end
Ends known remaining contents input read output written (Err (none.Usage text)) end = (read ≡ input) × (written ≡ output) × (end ≡ Usage text)
Ends known remaining contents input read output written (Err none.NoMemory) end = (read ≡ input) × (written ≡ output) × (end ≡ NoMemory)

-- how a command is done, by what its words ask for: an order desk on a folder ends as it says, and all else as above, and
-- then its end and nothing else is told
abbrev pub IsDoneAs : Known → {R W E : Type 0} → (R → Option (List ℕ)) → (W → Option (List ℕ)) → (E → Option (List ℕ)) → Told R → Told R → Told W → Told W → Told E → Told E → Result Request NoRequest → Ending → Type 0
IsDoneAs known remaining contents heard input read output written errors told (Ok (Desk workers (Some folder))) end =
    (opened : Opening) × DeskEnds unopened opened known (string_bytes folder) remaining contents heard input read output written errors told end
IsDoneAs known remaining contents heard input read output written errors told asked end =
    Ends known remaining contents input read output written asked end × IsTold heard errors told (words_of end)

-- the end of a day that was not written whole
abbrev pub IsEndOf : DayFault → Ending → Type 0
IsEndOf (fault.Refused f) end = TellsFault f end
IsEndOf (fault.TooLarge name) end = end ≡ TooLarge name
IsEndOf fault.Read end = end ≡ Read
IsEndOf fault.Write end = end ≡ Write
IsEndOf fault.NoMemory end = end ≡ NoMemory

-- a command was done: what its words ask for, how it ended, with what status, and what was written about it
pub record IsDone {R W E : Type 0} (remaining : R → Option (List ℕ)) (contents : W → Option (List ℕ)) (heard : E → Option (List ℕ)) (words : List (List ℕ))
    (input read : Told R) (output written : Told W) (errors told : Told E) (status : ℕ) : Type 0 where
  pub asked : Result Request NoRequest
  pub asks : Asks words asked
  pub end : Ending
  pub done : IsDoneAs nothing_known remaining contents heard input read output written errors told asked end
  pub code : status ≡ code_of (status_of end)
