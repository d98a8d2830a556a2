-- The files of runs that come one after the other, and what is told of them (profile).
use Rattle.std.specs.Prelude.{ℕ, ◌≡◌, ◌⊎◌, List, [], ◌∷◌, ◌++◌, Option, Some, None, Err, ⊤, option_map}
use Rattle.std.specs.List.{FoldsTo}
use Rattle.mrp_rows.specs.declared.told.Told.{Told}
use Rattle.mrp_rows.specs.declared.streams.TheConstants.{WRITE_TRIES}
use Rattle.mrp_tables.specs.Tables.{Tables}
use Rattle.mrp_book.specs.Standing.{History}
use Rattle.mrp_report.specs.Taken.{HasTakenAll}
use Rattle.mrp_report.specs.Written.{HasGivenUp}
use Rattle.mrp_folder.specs.Named.{Named}
use Rattle.mrp_runs.specs.File.{IsRunAfter}
use Rattle.mrp_runs.specs.Kept.{FailsToMake}
use Rattle.mrp_runs.specs.Maker.{KeepsFile, MayKeepFile}
use Rattle.mrp_runs.specs.Notes.{note_of, note_text}
use Rattle.mrp_runs.specs.declared.fault.MakeFault.{MakeFault}
use Rattle.mrp_runs.specs.declared.refusal.Refusal.{Refusal}
use Rattle.mrp_runs.specs.declared.refusal.Refusal.TheVariants as refusal
use Rattle.mrp_runs.specs.declared.run.Run.{Run}
use Rattle.mrp_runs.specs.declared.telling.Note.{Note}
use Rattle.mrp_runs.specs.declared.telling.Note.TheVariants as note

-- a run is the first of those that are to come, or none comes any more, as far as they are known
abbrev pub GivesNext : Option (List Run) → Option Run → Option (List Run) → Type 0
GivesNext None given left = ⊤
GivesNext (Some runs) None left = runs ≡ []
GivesNext (Some runs) (Some run) left = (rest : List Run) × (runs ≡ run ∷ rest) × (left ≡ Some rest)

-- what is told of a run: the line of a note, unless the stream gives up, or nothing
abbrev pub TellsNote : {N : Type 0} → (N → Option (List ℕ)) → Run → Option Note → Told N → Told N → Type 0
TellsNote contents run None old new = new ≡ old
TellsNote contents run (Some said) old new = HasTakenAll contents old new (note_text run.snapshot.front said) ⊎ HasGivenUp old new WRITE_TRIES

-- it is told of a run that there was no memory for it, unless the stream gives up
abbrev pub TellsMissed : {N : Type 0} → (N → Option (List ℕ)) → ℕ → Told N → Told N → Type 0
TellsMissed contents front old new = HasTakenAll contents old new (note_text front (note.Refused refusal.NoMemory)) ⊎ HasGivenUp old new WRITE_TRIES

-- a run has its file, and if that has no report, it is told why
abbrev pub GetsFile : {N : Type 0} → (N → Option (List ℕ)) → Tables → Run → Option (List Named) → Option (List Named) → Told N → Told N → Type 0
GetsFile contents tables run named next notes told =
    (outcome : Option Refusal) × ((before : History) → IsRunAfter tables before run → KeepsFile tables before run outcome named next) × TellsNote contents run (option_map (λ r. note.Refused r) outcome) notes told

-- a run may have no file, as a call of its folder, or a write, has failed, or there was no memory; and that is told
abbrev pub LacksFile : (P : Type 0) {N : Type 0} → (N → Option (List ℕ)) → Tables → Run → ℕ → ℕ → Option (List Named) → Option (List Named) → Told N → Told N → Type 0
LacksFile P contents tables run sound failed named next notes told =
    ((before : History) → IsRunAfter tables before run → MayKeepFile tables before run named next) × ((why : MakeFault P) × FailsToMake sound failed why × TellsNote contents run (note_of (Err why)) notes told)

-- the file of a run is made, and no call of its folder failed; or it is told why it is not
abbrev pub MakesRun : (P : Type 0) {N : Type 0} → (N → Option (List ℕ)) → Tables → Run → ℕ → ℕ → Option (List Named) → Option (List Named) → Told N → Told N → Type 0
MakesRun P contents tables run sound failed named next notes told = ((failed ≡ sound) × GetsFile contents tables run named next notes told) ⊎ LacksFile P contents tables run sound failed named next notes told

-- the same of runs, one after the other
abbrev pub MakesEach : (P : Type 0) {N : Type 0} → (N → Option (List ℕ)) → Tables → List Run → ℕ → ℕ → Option (List Named) → Option (List Named) → Told N → Told N → Type 0
MakesEach P {N} contents tables runs sound failed named next notes told =
    FoldsTo (λ (old : Option (List Named) × ℕ × Told N) (run : Run) (new : Option (List Named) × ℕ × Told N). MakesRun P contents tables run old.1 new.1 old.0 new.0 old.2 new.2) (named, sound, notes) runs (next, failed, told)

-- the same of all runs that come, as far as they are known
abbrev pub MakesAll : (P : Type 0) {N : Type 0} → (N → Option (List ℕ)) → Tables → Option (List Run) → ℕ → ℕ → Option (List Named) → Option (List Named) → Told N → Told N → Type 0
MakesAll P contents tables None sound failed named next notes told = ⊤
MakesAll P contents tables (Some runs) sound failed named next notes told = MakesEach P contents tables runs sound failed named next notes told

-- the same of those that came, while others are left
abbrev pub MakesFirst : (P : Type 0) {N : Type 0} → (N → Option (List ℕ)) → Tables → Option (List Run) → Option (List Run) → ℕ → ℕ → Option (List Named) → Option (List Named) → Told N → Told N → Type 0
MakesFirst P contents tables None left sound failed named next notes told = ⊤
MakesFirst P contents tables (Some runs) left sound failed named next notes told =
    (made rest : List Run) × (runs ≡ made ++ rest) × (left ≡ Some rest) × MakesEach P contents tables made sound failed named next notes told
