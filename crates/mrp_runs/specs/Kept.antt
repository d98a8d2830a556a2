-- What becomes of the files of a folder while a run's file is made (profile).
use Rattle.std.specs.Prelude.{ℕ, ◌≡◌, ◌⊎◌, List, ◌++◌, Option}
use Rattle.mrp_folder.specs.Kept.{Adds, Fails}
use Rattle.mrp_folder.specs.Named.{Named}
use Rattle.mrp_runs.specs.declared.fault.MakeFault.{MakeFault}
use Rattle.mrp_runs.specs.declared.fault.MakeFault.TheVariants as fault
use Rattle.mrp_runs.specs.declared.refusal.Refusal.{Refusal}

-- the file that gets the name begins with this, and such a text follows
abbrev pub AddsBehind : List ℕ → (List ℕ → Type 0) → List ℕ → Option (List Named) → Option (List Named) → Type 0
AddsBehind head Is name old new = (rest : List ℕ) × Is rest × Adds name (head ++ rest) old new

-- either that, with one of these outcomes, or no file gets a name
abbrev pub MayAddBehind : List ℕ → (Option Refusal → List ℕ → Type 0) → List ℕ → Option (List Named) → Option (List Named) → Type 0
MayAddBehind head Is name old new = (new ≡ old) ⊎ ((outcome : Option Refusal) × AddsBehind head (Is outcome) name old new)

-- why a run's file was not named: its folder, or its writes, failed; or there was no memory, and no call of the folder failed
abbrev pub FailsToMake : {P : Type 0} → ℕ → ℕ → MakeFault P → Type 0
FailsToMake old new (fault.Keep kept) = Fails old new kept
FailsToMake old new fault.NoMemory = new ≡ old
