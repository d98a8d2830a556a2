-- What a maker of runs' files keeps, and the file that it makes (profile).
use Rattle.std.specs.Prelude.{ℕ, ◌≡◌, ◌⊎◌, List, Option}
use Rattle.std.specs.Int.{IsInRange}
use Rattle.mrp_tables.specs.Tables.{Tables}
use Rattle.mrp_book.specs.History.{next_number}
use Rattle.mrp_book.specs.Standing.{History}
use Rattle.mrp_item.specs.Places.{WholePlan}
use Rattle.mrp_engine.specs.day.RunPlans.{IsOfShop}
use Rattle.mrp_engine.specs.declared.day.run.TheConstants.{MOST_WORKERS}
use Rattle.mrp_folder.specs.Kept.{Adds}
use Rattle.mrp_folder.specs.Named.{Named}
use Rattle.mrp_runs.specs.File.{IsFileOf, run_name}
use Rattle.mrp_runs.specs.declared.refusal.Refusal.{Refusal}
use Rattle.mrp_runs.specs.declared.run.Run.{Run}

-- the names and the last plan are of the shop, and there are 1 to 64 workers
pub record KeepsMaker (tables names : Tables) (last : Option WholePlan) (workers : ℕ) : Type 0 where
  pub named : names ≡ tables
  pub of_shop : IsOfShop tables last
  pub enough : IsInRange 1 MOST_WORKERS workers

-- the file of a run behind these entries gets its name, with the number of its entry, and is whole and durable
abbrev pub KeepsFile : Tables → History → Run → Option Refusal → Option (List Named) → Option (List Named) → Type 0
KeepsFile tables before run outcome old new = (text : List ℕ) × IsFileOf tables before run outcome text × Adds (run_name (next_number before)) text old new

-- either that, or no file gets a name
abbrev pub MayKeepFile : Tables → History → Run → Option (List Named) → Option (List Named) → Type 0
MayKeepFile tables before run old new = (new ≡ old) ⊎ ((outcome : Option Refusal) × KeepsFile tables before run outcome old new)
