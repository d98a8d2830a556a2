-- The runs of an order desk's entries, and which of them are handed over (profile).
use Rattle.std.specs.Prelude.{ℕ, ◌≡◌, ◌⊎◌, true, false, List, [], ◌∷◌, ◌++◌, Option, None, option_map}
use Rattle.std.specs.List.{FoldsTo}
use Rattle.std.specs.Path.{path_join}
use Rattle.mrp_turn.specs.declared.log.Entry.{Entry}
use Rattle.mrp_book.specs.declared.call.Call.{Call}
use Rattle.mrp_book.specs.declared.reply.Reply.{Reply}
use Rattle.mrp_book.specs.declared.reply.Reply.TheVariants as reply
use Rattle.mrp_book.specs.Snapshot.{Snapshot}
use Rattle.mrp_book.specs.Standing.{History}
use Rattle.mrp_words.specs.Folder.{IsThere, Known}
use Rattle.mrp_runs.specs.File.{run_name}
use Rattle.mrp_runs.specs.declared.run.Run.{Run}

-- where an entry is a run, it is one of these
abbrev pub IsRunOf : (Run → Type 0) → Entry Call Reply → Type 0
IsRunOf P e = (snapshot : Snapshot) → e.reply ≡ reply.Taken snapshot → P (record { desk = e.who; snapshot = snapshot })

-- the numbers of runs, and one more
abbrev pub with_front : ℕ → Option (List ℕ) → Option (List ℕ)
with_front front numbers = option_map (λ fronts. fronts ++ front ∷ []) numbers

-- runs, and one more
abbrev pub with_run : Run → Option (List Run) → Option (List Run)
with_run run runs = option_map (λ given. given ++ run ∷ []) runs

-- the numbers of the runs that were told, and those that were given, in order, as far as they are known
pub record Handed : Type 0 where
  pub told : Option (List ℕ)
  pub given : Option (List Run)

-- those of a taker of runs
abbrev pub handed_of : {T : Type 0} → (T → Option (List ℕ)) → (T → Option (List Run)) → T → Handed
handed_of told given taker = record { told = told taker; given = given taker }

-- none of them are known
abbrev pub unknown : Handed
unknown = record { told = None; given = None }

-- a run was given
pub record Gives (run : Run) (old new : Handed) : Type 0 where
  pub told : new.told ≡ with_front run.snapshot.front old.told
  pub given : new.given ≡ with_run run old.given

-- a run was told and not given, as there was no memory for it
pub record Misses (front : ℕ) (old new : Handed) : Type 0 where
  pub told : new.told ≡ with_front front old.told
  pub given : new.given ≡ old.given

-- a run was handed over
abbrev pub Hands : Run → Handed → Handed → Type 0
Hands run old new = Gives run old new ⊎ Misses run.snapshot.front old new

-- where a reply answers a run of a desk, that run was handed over
abbrev pub HandsOver : ℕ → Reply → Handed → Handed → Type 0
HandsOver desk (reply.Taken snapshot) old new = Hands (record { desk = desk; snapshot = snapshot }) old new
HandsOver desk r old new = new ≡ old

-- the runs of entries were handed over, each once, in order
abbrev pub HandsOverAll : History → Handed → Handed → Type 0
HandsOverAll entries old new = FoldsTo (λ (handed : Handed) (e : Entry Call Reply) (next : Handed). HandsOver e.who e.reply handed next) old entries new

-- a run whose file would stand at a path is given where it is not there, and passed over where it is, as far as that is
-- known; or it is told, as there was no memory for it
abbrev pub HandsUnless : Known → List ℕ → Run → Handed → Handed → Type 0
HandsUnless known path run old new =
    (Gives run old new × IsThere known path false) ⊎ (Misses run.snapshot.front old new ⊎ ((new ≡ old) × IsThere known path true))

-- where the file of a run of a folder would stand
abbrev pub run_path : List ℕ → Run → List ℕ
run_path folder run = path_join folder (run_name run.snapshot.front)

-- where a reply answers a run of a desk, that run was handed over, unless the folder has its file
abbrev pub HandsMissing : Known → List ℕ → ℕ → Reply → Handed → Handed → Type 0
HandsMissing known folder desk (reply.Taken snapshot) old new =
    HandsUnless known (run_path folder (record { desk = desk; snapshot = snapshot })) (record { desk = desk; snapshot = snapshot }) old new
HandsMissing known folder desk r old new = new ≡ old

-- of entries, the runs without a file in the folder were handed over, each once, in order
abbrev pub HandsAllMissing : Known → List ℕ → History → Handed → Handed → Type 0
HandsAllMissing known folder entries old new =
    FoldsTo (λ (handed : Handed) (e : Entry Call Reply) (next : Handed). HandsMissing known folder e.who e.reply handed next) old entries new
