-- What is told of runs (profile).
use Rattle.std.specs.Prelude.{ℕ, List, [], ◌∷◌, ◌++◌, Option, Some, None, Result, Ok, Err, codes, decimal}
use Rattle.mrp_runs.specs.File.{refusal_text}
use Rattle.mrp_runs.specs.declared.fault.MakeFault.{MakeFault}
use Rattle.mrp_runs.specs.declared.fault.MakeFault.TheVariants as fault
use Rattle.mrp_runs.specs.declared.refusal.Refusal.{Refusal}
use Rattle.mrp_runs.specs.declared.refusal.Refusal.TheVariants as refusal
use Rattle.mrp_runs.specs.declared.telling.Note.{Note}
use Rattle.mrp_runs.specs.declared.telling.Note.TheVariants as note

-- what is told of a run, by what came of it: nothing where its report stands in its file
abbrev pub note_of : {P : Type 0} → Result (Option Refusal) (MakeFault P) → Option Note
note_of (Ok None) = None
note_of (Ok (Some refusal)) = Some (note.Refused refusal)
note_of (Err fault.NoMemory) = Some (note.Refused refusal.NoMemory)
note_of (Err (fault.Keep kept)) = Some note.Write

-- what stands behind the run's number
abbrev pub rest_of : Note → List ℕ
rest_of (note.Refused refusal) = refusal_text refusal
rest_of note.Write = codes "write failed" ++ [] ++ 10 ∷ []

-- the line
abbrev pub note_text : ℕ → Note → List ℕ
note_text front said = codes "run " ++ decimal front ++ codes ": " ++ rest_of said
