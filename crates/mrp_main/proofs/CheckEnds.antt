-- How a check ends, by the results of its parts.
use Rattle.std.proofs.Common.{◌≡◌, ◌⊎◌, ◌^◌, ℕ, List, Option, Result, Err, refl}
use Rattle.mrp_rows.specs.declared.told.Told.{Told}
use Rattle.mrp_rows.specs.declared.streams.ReadFault.{ReadFault}
use Rattle.mrp_rows.specs.declared.streams.ReadFault.TheVariants as read
use Rattle.mrp_rows.specs.Told.{HasRisenBy, calls_of, failures_of, moved_of}
use Rattle.mrp_main.specs.CheckEnds.{IsDayRead}

-- a day that was not read
pub day-unread : {R X : Type 0} (remaining : R → Option (List ℕ)) (old new : Told R) (fault : ReadFault)
    → (◌≡◌ {A = Result X ReadFault} (Err fault) (Err read.Read) → HasRisenBy 1 (failures_of old) (failures_of new) ⊎ HasRisenBy 100000000 (calls_of old) (calls_of new) ⊎ HasRisenBy (2 ^ 64) (moved_of old) (moved_of new))
    → (◌≡◌ {A = Result X ReadFault} (Err fault) (Err read.NoMemory) → failures_of new ≡ failures_of old) → IsDayRead remaining old new (Err fault)
day-unread remaining old new read.Read limits memory = limits refl
day-unread remaining old new read.NoMemory limits memory = memory refl
