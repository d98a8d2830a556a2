-- How the page of a day ends (profile).
use Rattle.std.specs.Prelude.{ℕ, ◌≡◌, ◌≢◌, ◌⊎◌, List, [], Option, Some, None, Result, Ok, Err, codes, map, option_map, string_bytes}
use Rattle.std.specs.Io.KnownBytes.{Appends}
use Rattle.mrp_rows.specs.declared.told.Told.{Told}
use Rattle.mrp_rows.specs.declared.streams.TheConstants.{WRITE_TRIES}
use Rattle.mrp_rows.specs.Streams.{WritesFront}
use Rattle.mrp_rows.specs.Told.{inner_of}
use Rattle.mrp_report.specs.Written.{HasGivenUp, HasGoneOn}
use Rattle.mrp_rows.specs.declared.fault.Fault.{Fault}
use Rattle.mrp_rows.specs.declared.faults.TheConstants as faults
use Rattle.mrp_rows.specs.declared.streams.ReadFault.{ReadFault}
use Rattle.mrp_facts.specs.Dates.{AreDates}
use Rattle.mrp_facts.specs.Facts.{Facts}
use Rattle.mrp_tables.specs.Tables.{Tables}
use Rattle.mrp_script.specs.Opened.{IsAccepted, IsRefused}
use Rattle.mrp_words.specs.Folder.{IsReadFrom, Known}
use Rattle.mrp_commands.specs.Refusal.{TellsFault, end_of_read}
use Rattle.mrp_page.specs.Names.{names_of}
use Rattle.mrp_page.specs.Reading.{HasStopped, IsNoDay, LacksRun}
use Rattle.mrp_page.specs.Spot.{Names}
use Rattle.mrp_page.specs.Written.{IsOfOtherTables, IsPageOf}
use Rattle.mrp_page.specs.declared.fault.PageFault.{PageFault}
use Rattle.mrp_page.specs.declared.fault.PageFault.TheVariants as fault
use Rattle.mrp_words.specs.declared.page_words.PageWords.{PageWords}
use Rattle.mrp_commands.specs.declared.ending.Ending.{Ending}
use Rattle.mrp_commands.specs.declared.ending.Ending.TheVariants.{Done, InUse, LeftBehind, Refused, TablesChanged, TooLarge, WrongShape, Wrong, NoRun, NoStart, Usage, NoMemory, Read, Write, WrongTables}

-- the names of a line; none if there is no line
abbrev pub names_in : Option (List ℕ) → List (List ℕ)
names_in None = []
names_in (Some line) = names_of line

-- a title, or `Plan` where there is none
abbrev pub title_of : Option (List ℕ) → List ℕ
title_of None = codes "Plan"
title_of (Some title) = title

-- these are the names of the items that a page is asked to show
abbrev pub AreAsked : PageWords → Names → Type 0
AreAsked words names = map (λ name. name.now) names ≡ names_in (option_map string_bytes words.items)

-- a text is a day, which can be of these tables if they are given, and this holds of the page that is asked for
abbrev pub IsPageBy : PageWords → Option Facts → List ℕ → (List ℕ → Type 0) → Type 0
IsPageBy words tables text P = (names : Names) × AreAsked words names × IsPageOf (title_of (option_map string_bytes words.title)) tables names words.run text P

-- a text has fewer runs than the number asked for
abbrev pub LacksRunBy : PageWords → List ℕ → Type 0
LacksRunBy words text = (names : Names) × AreAsked words names × LacksRun names words.run text

-- a text is a day, which cannot be of these tables
abbrev pub IsOfOthersBy : PageWords → Option Facts → List ℕ → Type 0
IsOfOthersBy words tables text = (names : Names) × AreAsked words names × IsOfOtherTables tables names words.run text

-- how a page of what an input had left ends, with the tables or without: it was written, or a prefix of it, or nothing
abbrev pub PageEnds : PageWords → Option Facts → {R W : Type 0} → (R → Option (List ℕ)) → (W → Option (List ℕ)) → Told R → Told R → Told W → Told W → Ending → Type 0
PageEnds words tables remaining contents input read output written Done =
    HasGoneOn output written WRITE_TRIES × ((text : List ℕ) → remaining (inner_of input) ≡ Some text → IsPageBy words tables text (λ page. Appends (contents (inner_of output)) (contents (inner_of written)) page))
PageEnds words tables remaining contents input read output written WrongShape = (written ≡ output) × ((text : List ℕ) → remaining (inner_of input) ≡ Some text → IsNoDay text)
PageEnds words tables remaining contents input read output written WrongTables = (written ≡ output) × ((text : List ℕ) → remaining (inner_of input) ≡ Some text → IsOfOthersBy words tables text)
PageEnds words tables remaining contents input read output written NoRun = (written ≡ output) × ((text : List ℕ) → remaining (inner_of input) ≡ Some text → LacksRunBy words text)
PageEnds words tables remaining contents input read output written NoMemory = written ≡ output
PageEnds words tables remaining contents input read output written Read = (written ≡ output) × HasStopped input read
PageEnds words tables remaining contents input read output written Write =
    HasGivenUp output written WRITE_TRIES × ((text : List ℕ) → remaining (inner_of input) ≡ Some text → IsPageBy words tables text (λ page. WritesFront (contents (inner_of output)) (contents (inner_of written)) page))
PageEnds words tables remaining contents input read output written (Refused text) = ⊥
PageEnds words tables remaining contents input read output written (TooLarge name) = ⊥
PageEnds words tables remaining contents input read output written (Usage text) = ⊥
PageEnds words tables remaining contents input read output written Wrong = ⊥
PageEnds words tables remaining contents input read output written InUse = ⊥
PageEnds words tables remaining contents input read output written TablesChanged = ⊥
PageEnds words tables remaining contents input read output written (LeftBehind text) = ⊥
PageEnds words tables remaining contents input read output written (NoStart range) = ⊥

-- the end of a page that was not written whole
abbrev pub end_of : PageFault → Ending
end_of fault.Shape = WrongShape
end_of fault.Tables = WrongTables
end_of fault.NoRun = NoRun
end_of fault.NoMemory = NoMemory
end_of fault.Read = Read
end_of fault.Write = Write

-- how a page with tables ends: memory ran out before the day was read, and nothing was written; or it is drawn with these
-- tables and the dates of their weeks
abbrev pub TablesPageEnds : PageWords → Tables → {R W : Type 0} → (R → Option (List ℕ)) → (W → Option (List ℕ)) → Told R → Told R → Told W → Told W → Ending → Type 0
TablesPageEnds words tables remaining contents input read output written end =
    ((read ≡ input) × (written ≡ output) × (end ≡ NoMemory))
    ⊎ ((facts : Facts) × (facts.tables ≡ tables) × AreDates facts.tables.calendar facts.dates × PageEnds words (Some facts) remaining contents input read output written end)

-- how a page with the tables of a bundle ends: the bundle is refused for a fault that is not out of memory, or memory ran out,
-- before the day is read, and nothing was written; or as that of its tables
abbrev pub BundlePageEnds : PageWords → List ℕ → {R W : Type 0} → (R → Option (List ℕ)) → (W → Option (List ℕ)) → Told R → Told R → Told W → Told W → Ending → Type 0
BundlePageEnds words bundle remaining contents input read output written end =
    ((read ≡ input) × (written ≡ output) × (((f : Fault) × IsRefused bundle f × (f.code ≢ faults.NO_MEMORY) × TellsFault f end) ⊎ (end ≡ NoMemory)))
    ⊎ ((tables : Tables) × IsAccepted bundle tables × TablesPageEnds words tables remaining contents input read output written end)

-- the same of a bundle that was to be read; or with what kept it from being read, and nothing was written
abbrev pub ReadPageEnds : PageWords → Result (List ℕ) ReadFault → {R W : Type 0} → (R → Option (List ℕ)) → (W → Option (List ℕ)) → Told R → Told R → Told W → Told W → Ending → Type 0
ReadPageEnds words (Ok bundle) remaining contents input read output written end = BundlePageEnds words bundle remaining contents input read output written end
ReadPageEnds words (Err fault) remaining contents input read output written end = (end ≡ end_of_read fault) × (read ≡ input) × (written ≡ output)

-- how a page with the tables of a folder's files ends
pub record FolderPageEnds {R W : Type 0} (known : Known) (folder : List ℕ) (words : PageWords) (remaining : R → Option (List ℕ)) (contents : W → Option (List ℕ)) (input read : Told R) (output written : Told W) (end : Ending) : Type 0 where
  pub bundle : Result (List ℕ) ReadFault
  pub is_read : IsReadFrom known folder bundle
  pub ends : ReadPageEnds words bundle remaining contents input read output written end

-- how a page ends, with the tables of the folder that is named, or without
abbrev pub AskedPageEnds : Known → PageWords → Option (List ℕ) → {R W : Type 0} → (R → Option (List ℕ)) → (W → Option (List ℕ)) → Told R → Told R → Told W → Told W → Ending → Type 0
AskedPageEnds known words None remaining contents input read output written end = PageEnds words None remaining contents input read output written end
AskedPageEnds known words (Some folder) remaining contents input read output written end = FolderPageEnds known folder words remaining contents input read output written end
