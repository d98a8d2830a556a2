-- What becomes of the files of a folder while a file is put into it (profile).
use Rattle.std.specs.Prelude.{ℕ, ◌≡◌, ◌⊎◌, ◌+◌, List, [], ◌∷◌, ◌++◌, Option, Some, None, IfSome, ⊤}
use Rattle.mrp_rows.specs.Told.{HasRisenBy, failures_of, interrupted_of}
use Rattle.mrp_rows.specs.declared.streams.TheConstants.{WRITE_TRIES}
use Rattle.mrp_folder.specs.Named.{Named, whole}
use Rattle.mrp_folder.specs.declared.fault.KeepFault.{KeepFault}
use Rattle.mrp_folder.specs.declared.fault.KeepFault.TheVariants as fault

-- where the named files of its folder are known, a file is known to have this text
abbrev pub Holds : Option (List Named) → Option (List ℕ) → List ℕ → Type 0
Holds files contents text = IfSome files (λ _. contents ≡ Some text)

-- a file with this text gets a name, and it is whole and durable
abbrev pub Adds : List ℕ → List ℕ → Option (List Named) → Option (List Named) → Type 0
Adds name text None new = ⊤
Adds name text (Some files) new = new ≡ Some (files ++ whole name text ∷ [])

-- either that, or no file gets a name
abbrev pub MayAdd : List ℕ → List ℕ → Option (List Named) → Option (List Named) → Type 0
MayAdd name text old new = (new ≡ old) ⊎ Adds name text old new

-- why a file was not named: a call of the folder failed; or the file's writes failed, or were interrupted too often
abbrev pub Fails : {P : Type 0} → ℕ → ℕ → KeepFault P → Type 0
Fails old new fault.Folder = HasRisenBy 1 old new
Fails old new (fault.Part part) = HasRisenBy 1 0 (failures_of part) ⊎ HasRisenBy (WRITE_TRIES + 1) 0 (interrupted_of part)

-- for one of these reasons a text was not put into a folder
abbrev pub FailsToKeep : (P : Type 0) → ℕ → ℕ → Type 0
FailsToKeep P old new = (why : KeepFault P) × Fails old new why
