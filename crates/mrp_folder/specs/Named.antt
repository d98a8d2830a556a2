-- The files of a folder that have names: what of each is durable (profile).
use Rattle.std.specs.Prelude.{ℕ, ◌≡◌, List, [], ◌∷◌, ◌++◌, Option, Some, None, Result, Ok, Err}
use Rattle.mrp_rows.specs.declared.streams.WriteFault.{WriteFault}
use Rattle.mrp_rows.specs.Told.{HasRisenBy}
use Rattle.mrp_journal.specs.Held.{Held, settled}

-- a file with a name
pub record Named : Type 0 where
  pub name : List ℕ
  pub file : Held

-- one that is whole and durable
abbrev pub whole : List ℕ → List ℕ → Named
whole name text = record { name = name; file = settled text }

-- a file with such bytes, of which these are durable, gets a name, as far as they are known
abbrev pub with_name : List ℕ → Option (List ℕ) → Option (List ℕ) → Option (List Named) → Option (List Named)
with_name name (Some bytes) (Some durable) (Some files) = Some (files ++ record { name = name; file = record { bytes = bytes; durable = durable } } ∷ [])
with_name name _ _ _ = None

-- a call failed exactly where the count of failures rose
abbrev pub TellsFailure : {X : Type 0} → ℕ → ℕ → Result X WriteFault → Type 0
TellsFailure old new (Ok x) = new ≡ old
TellsFailure old new (Err fault) = HasRisenBy 1 old new
