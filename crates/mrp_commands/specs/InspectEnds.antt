-- How an inspection ends (profile).
use Rattle.std.specs.Prelude.{ℕ, ◌≡◌, Bool, true, false, List, Option, Some, None, Result, Ok, Err, IfOk, flat_map, string_bytes}
use Rattle.mrp_qty.specs.declared.memory.NoMemory.{NoMemory as Refused}
use Rattle.mrp_rows.specs.declared.told.Told.{Told}
use Rattle.mrp_rows.specs.declared.streams.ReadFault.{ReadFault}
use Rattle.mrp_inspect.specs.Found.{Finds}
use Rattle.mrp_inspect.specs.Inspected.{Inspects}
use Rattle.mrp_inspect.specs.declared.found.Found.{Found}
use Rattle.mrp_inspect.specs.declared.inspecting.Inspected.{Inspected}
use Rattle.mrp_words.specs.Folder.{Known}
use Rattle.mrp_commands.specs.declared.ending.Ending.{Ending}
use Rattle.mrp_commands.specs.declared.ending.Ending.TheVariants.{Done, NoMemory, Wrong}
use Rattle.mrp_commands.specs.declared.status.Status.TheVariants as status
use Rattle.mrp_commands.specs.Telling.{Says}
use Rattle.mrp_commands.specs.Refusal.{end_of_read}
use Rattle.mrp_commands.specs.Status.{status_of}

-- the end of an inspection that was written whole, by whether faults were told
abbrev pub inspected_end : Bool → Ending
inspected_end true = Wrong
inspected_end false = Done

-- what is told of files is written; or nothing, where memory ran out
abbrev pub TellsInspected : {W : Type 0} → (W → Option (List ℕ)) → Told W → Told W → Result Inspected Refused → Ending → Type 0
TellsInspected contents output written (Ok inspected) end = Says contents output written (flat_map string_bytes inspected.texts.items) (inspected_end inspected.has_faults) end
TellsInspected contents output written (Err f) end = (end ≡ NoMemory) × (written ≡ output)

-- how an inspection ends, by what was found in the folder
abbrev pub InspectsFound : {W : Type 0} → (W → Option (List ℕ)) → Told W → Told W → Result Found ReadFault → Ending → Type 0
InspectsFound contents output written (Ok found) end = (inspected : Result Inspected Refused) × IfOk inspected (Inspects found) × TellsInspected contents output written inspected end
InspectsFound contents output written (Err f) end = (end ≡ end_of_read f) × (written ≡ output)

-- how the inspection of a folder's files ends
pub record InspectEnds {W : Type 0} (known : Known) (folder : List ℕ) (contents : W → Option (List ℕ)) (output written : Told W) (end : Ending) : Type 0 where
  pub found : Result Found ReadFault
  pub is_found : Finds known folder found
  pub ends : InspectsFound contents output written found end

-- words ask for none without a folder
abbrev pub InspectEndsIn : {W : Type 0} → Known → Option (List ℕ) → (W → Option (List ℕ)) → Told W → Told W → Ending → Type 0
InspectEndsIn known (Some folder) contents output written end = InspectEnds known folder contents output written end
InspectEndsIn known None contents output written end = (written ≡ output) × (status_of end ≡ status.Usage)
