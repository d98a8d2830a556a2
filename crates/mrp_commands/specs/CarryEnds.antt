-- How carrying bookings ends (profile).
use Rattle.std.specs.Prelude.{ℕ, ◌≡◌, ◌⊎◌, ◌==◌, ◌++◌, if◌then◌else◌, Bool, true, false, List, Option, Some, None, Result, Ok, Err, ⊤, codes, decimal, option_map, string_bytes}
use Rattle.jiff.specs.Types.{Date}
use Rattle.jiff.specs.Words.{date_text}
use Rattle.mrp_rows.specs.declared.told.Told.{Told}
use Rattle.mrp_rows.specs.declared.streams.ReadFault.{ReadFault}
use Rattle.mrp_rows.specs.declared.streams.TheConstants.{WRITE_TRIES}
use Rattle.mrp_report.specs.Written.{HasGivenUp, HasTakenFront}
use Rattle.mrp_report.specs.Taken.{HasTakenAll}
use Rattle.mrp_carry.specs.Carries.{Carries}
use Rattle.mrp_carry.specs.declared.carrying.Carried.{Carried}
use Rattle.mrp_carry.specs.declared.fault.CarryFault.{CarryFault}
use Rattle.mrp_carry.specs.declared.fault.CarryFault.TheVariants as fault
use Rattle.mrp_carry.specs.declared.form.CarryForm.{CarryForm}
use Rattle.mrp_carry.specs.declared.form.CarryForm.TheVariants as form
use Rattle.mrp_words.specs.Folder.{IsReadFrom, Known}
use Rattle.mrp_words.specs.declared.carry_words.CarryWords.{CarryWords}
use Rattle.mrp_commands.specs.declared.ending.Ending.{Ending}
use Rattle.mrp_commands.specs.declared.ending.Ending.TheVariants.{Done, LeftBehind, NoMemory, NoStart, Write}
use Rattle.mrp_commands.specs.declared.status.Status.TheVariants as status
use Rattle.mrp_commands.specs.Refusal.{TellsFault, end_of_read}
use Rattle.mrp_commands.specs.Status.{status_of}

-- what is said of the bookings that are not carried
abbrev pub left_behind_text : ℕ → List ℕ → List ℕ
left_behind_text count start =
    if count == 1 then codes "1 standing booking was due before " ++ start ++ codes " and is not carried"
    else decimal count ++ codes " standing bookings were due before " ++ start ++ codes " and are not carried"

-- the end of what was carried, by how many bookings are not: it is said how many, if there are any
abbrev pub IsEndBehind : ℕ → List ℕ → Ending → Type 0
IsEndBehind count start Done = count ≡ 0
IsEndBehind count start (LeftBehind text) = ((count ≡ 0) → ⊥) × (string_bytes text ≡ left_behind_text count start)
IsEndBehind count start _ = ⊥

-- the end of a start that is refused: the text of the days on which a period may start takes memory
abbrev pub TellsStart : Date → Date → Ending → Type 0
TellsStart first last (NoStart range) = string_bytes range ≡ date_text first ++ codes " to " ++ date_text last
TellsStart first last NoMemory = ⊤
TellsStart first last _ = ⊥

-- the end of what was not carried
abbrev pub TellsRefusal : CarryFault → Ending → Type 0
TellsRefusal (fault.Refused f) end = TellsFault f end
TellsRefusal (fault.NoSuchStart first last) end = TellsStart first last end
TellsRefusal fault.NoMemory end = end ≡ NoMemory

-- a text was written, and the end is one of these; or the output gave up with a prefix of it; or memory ran out for what there is to
-- say, and nothing was written
abbrev pub WritesCarried : {W : Type 0} → (W → Option (List ℕ)) → Told W → Told W → List ℕ → (Ending → Type 0) → Ending → Type 0
WritesCarried contents output written text IsEnd end =
    (IsEnd end × HasTakenAll contents output written text)
    ⊎ ((end ≡ Write) × HasGivenUp output written WRITE_TRIES × HasTakenFront contents output written text)
    ⊎ ((end ≡ NoMemory) × (written ≡ output))

-- what was carried is written, or why nothing was is told
abbrev pub TellsCarried : {W : Type 0} → (W → Option (List ℕ)) → Told W → Told W → List ℕ → Result Carried CarryFault → Ending → Type 0
TellsCarried contents output written start (Ok carried) end = WritesCarried contents output written carried.text.items (IsEndBehind carried.left_behind start) end
TellsCarried contents output written start (Err f) end = TellsRefusal f end × (written ≡ output)

-- how carrying ends, by what was read of the folder
abbrev pub CarriesRead : {W : Type 0} → (W → Option (List ℕ)) → Told W → Told W → List ℕ → CarryForm → Result (List ℕ) ReadFault → Ending → Type 0
CarriesRead contents output written start form (Ok bundle) end = (carried : Result Carried CarryFault) × Carries bundle start form carried × TellsCarried contents output written start carried end
CarriesRead contents output written start form (Err f) end = (end ≡ end_of_read f) × (written ≡ output)

-- how carrying the bookings of a folder's files ends
pub record CarryEnds {W : Type 0} (known : Known) (folder start : List ℕ) (form : CarryForm) (contents : W → Option (List ℕ)) (output written : Told W) (end : Ending) : Type 0 where
  pub read : Result (List ℕ) ReadFault
  pub is_read : IsReadFrom known folder read
  pub ends : CarriesRead contents output written start form read end

-- the form that words ask for
abbrev pub form_of : Bool → CarryForm
form_of true = form.Numbers
form_of false = form.Script

-- how carrying by these words ends; words ask for none without a folder and a start
abbrev pub CarryEndsIn : {W : Type 0} → Known → Option (List ℕ) → Option (List ℕ) → CarryForm → (W → Option (List ℕ)) → Told W → Told W → Ending → Type 0
CarryEndsIn known (Some folder) (Some start) form contents output written end = CarryEnds known folder start form contents output written end
CarryEndsIn known (Some folder) None form contents output written end = (written ≡ output) × (status_of end ≡ status.Usage)
CarryEndsIn known None start form contents output written end = (written ≡ output) × (status_of end ≡ status.Usage)

abbrev pub CarryEndsBy : Known → CarryWords → {W : Type 0} → (W → Option (List ℕ)) → Told W → Told W → Ending → Type 0
CarryEndsBy known words contents output written end = CarryEndsIn known (option_map string_bytes words.folder) (option_map string_bytes words.start) (form_of words.numbers) contents output written end
