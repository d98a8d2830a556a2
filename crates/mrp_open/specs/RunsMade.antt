-- What becomes of each run of an order desk's history (profile).
use Rattle.std.specs.Prelude.{ℕ, ◌≡◌, ◌⊎◌, true, List, ◌∷◌, ◌++◌, Option, Err, option_map}
use Rattle.mrp_rows.specs.declared.told.Told.{Told}
use Rattle.mrp_tables.specs.Tables.{Tables}
use Rattle.mrp_turn.specs.declared.log.Entry.{Entry}
use Rattle.mrp_book.specs.declared.call.Call.{Call}
use Rattle.mrp_book.specs.declared.reply.Reply.{Reply}
use Rattle.mrp_book.specs.declared.reply.Reply.TheVariants as reply
use Rattle.mrp_book.specs.Snapshot.{Snapshot}
use Rattle.mrp_book.specs.Standing.{History}
use Rattle.mrp_folder.specs.Named.{Named}
use Rattle.mrp_words.specs.Folder.{IsThere, Known}
use Rattle.mrp_runs.specs.Kept.{FailsToMake}
use Rattle.mrp_runs.specs.Maker.{KeepsFile, MayKeepFile}
use Rattle.mrp_runs.specs.Notes.{note_of}
use Rattle.mrp_runs.specs.declared.fault.MakeFault.{MakeFault}
use Rattle.mrp_runs.specs.declared.refusal.Refusal.{Refusal}
use Rattle.mrp_runs.specs.declared.run.Run.{Run}
use Rattle.mrp_runs.specs.declared.telling.Note.TheVariants as note
use Rattle.mrp_open.specs.Made.{MakesEach, TellsNote}
use Rattle.mrp_open.specs.Runs.{Handed, Misses, run_path}

-- meanwhile such runs were told and given
pub record HandsOn (old new : Handed) : Type 0 where
  pub fronts : List ℕ
  pub runs : List Run
  pub told : new.told ≡ option_map (λ numbers. numbers ++ fronts) old.told
  pub given : new.given ≡ option_map (λ rs. rs ++ runs) old.given

-- meanwhile a run was told and not given, as there was no memory for it
pub record IsMissed (front : ℕ) (first last : Handed) : Type 0 where
  pub old : Handed
  pub new : Handed
  pub from : HandsOn first old
  pub misses : Misses front old new
  pub to : HandsOn new last

-- what the making of files has come to: which files have their names, how many calls failed, and what was told
abbrev pub Making : Type 0 → Type 0
Making N = Option (List Named) × ℕ × Told N

-- the file of a run behind these entries is made, and no call of its folder failed, and if that has no report, it is told why;
-- or it may not be made, and that is told
abbrev pub MakesAfter : (P : Type 0) {N : Type 0} → (N → Option (List ℕ)) → Tables → History → Run → Making N → Making N → Type 0
MakesAfter P contents tables before run old new =
    ((new.1 ≡ old.1) × ((outcome : Option Refusal) × KeepsFile tables before run outcome old.0 new.0 × TellsNote contents run (option_map (λ r. note.Refused r) outcome) old.2 new.2))
    ⊎ (MayKeepFile tables before run old.0 new.0 × ((why : MakeFault P) × FailsToMake old.1 new.1 why × TellsNote contents run (note_of (Err why)) old.2 new.2))

-- meanwhile that came of a run, among others
pub record IsMade (P : Type 0) {N : Type 0} (contents : N → Option (List ℕ)) (tables : Tables) (before : History) (run : Run) (first last : Making N) : Type 0 where
  pub old : Making N
  pub new : Making N
  pub earlier : List Run
  pub later : List Run
  pub from : MakesEach P contents tables earlier first.1 old.1 first.0 old.0 first.2 old.2
  pub makes : MakesAfter P contents tables before run old new
  pub to : MakesEach P contents tables later new.1 last.1 new.0 last.0 new.2 last.2

-- a run behind these entries had its file when a desk was opened; or there was no memory to hand it over, and that was told; or
-- its file was made, or it was told why not
abbrev pub HasCome : Known → List ℕ → (P : Type 0) {N : Type 0} → (N → Option (List ℕ)) → Tables → History → Run → Handed → Handed → Making N → Making N → Type 0
HasCome known folder P contents tables before run handed_old handed_new first last =
    IsThere known (run_path folder run) true ⊎ (IsMissed run.snapshot.front handed_old handed_new ⊎ IsMade P contents tables before run first last)

-- so it is with each run of a history
abbrev pub HaveCome : Known → List ℕ → (P : Type 0) {N : Type 0} → (N → Option (List ℕ)) → Tables → History → Handed → Handed → Making N → Making N → Type 0
HaveCome known folder P contents tables h handed_old handed_new first last =
    (before after : History) (e : Entry Call Reply) (snapshot : Snapshot) → h ≡ before ++ e ∷ after → e.reply ≡ reply.Taken snapshot
    → HasCome known folder P contents tables before (record { desk = e.who; snapshot = snapshot }) handed_old handed_new first last
