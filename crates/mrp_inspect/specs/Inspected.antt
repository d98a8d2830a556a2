-- What is told of a folder's files (profile).
use Rattle.std.specs.Prelude.{ℕ, Bool, true, false, ◌≡◌, ◌≢◌, List, ◌∷◌, Option, Result, Ok, Err, String, flat_map, string_bytes}
use Rattle.std.specs.declared.alloc.Global.{Global}
use Rattle.mrp_rows.specs.Joined.{joined}
use Rattle.mrp_rows.specs.declared.fault.Fault.{Fault}
use Rattle.mrp_rows.specs.declared.fault.Table.TheVariants as t
use Rattle.mrp_rows.specs.declared.faults.TheConstants as faults
use Rattle.mrp_tables.specs.declared.version.Version.TheVariants.{One}
use Rattle.mrp_script.specs.Opened.{IsRefused, Opens}
use Rattle.mrp_script.specs.declared.fault.OpenFault.{OpenFault}
use Rattle.mrp_survey.specs.declared.source.Source.{Source}
use Rattle.mrp_survey.specs.Survey.{IsSurveyOf}
use Rattle.mrp_survey.specs.Surveyed.{Surveyed}
use Rattle.mrp_inspect.specs.declared.found.Found.{Found}
use Rattle.mrp_inspect.specs.declared.inspecting.Inspected.{Inspected}
use Rattle.mrp_inspect.specs.Faults.{FaultLine, lines_found, texts_of}
use Rattle.mrp_inspect.specs.Found.{parts_of}
use Rattle.mrp_inspect.specs.Listed.{led_by, listed}
use Rattle.mrp_inspect.specs.Pieces.{pieces_of}
use Rattle.mrp_inspect.specs.Strays.{AreSources}
use Rattle.mrp_inspect.specs.Warned.{WarnsOf}

-- the bundle of a folder's files, which `mrp plan` reads
abbrev pub bundle_in : Found → List ℕ
bundle_in found = joined (parts_of found)

-- the texts from which the tables are read
abbrev pub AreSourcesIn : Found → List (Option Source) → Type 0
AreSourcesIn found sources = AreSources (pieces_of (parts_of found)) sources

-- the text of all faults: the first line tells this one, by its number, its table and its record, and has its text behind it
pub record IsFaultsText (found : Found) (sources : List (Option Source)) (fault : Fault) (text : List ℕ) : Type 0 where
  pub survey : Surveyed
  pub surveys : IsSurveyOf sources survey
  pub first : FaultLine
  pub others : List FaultLine
  pub lines : first ∷ others ≡ led_by fault (lines_found found survey)
  pub first_tells : first.fault ≡ fault
  pub text_is : text ≡ listed first.text (texts_of others) fault

-- the same, by a survey of the texts from which the tables are read
abbrev pub LeadsWith : Found → Fault → List ℕ → Type 0
LeadsWith found fault text = (sources : List (Option Source)) × AreSourcesIn found sources × IsFaultsText found sources fault text

-- the faults of a shop: `mrp plan` refuses its tables for this fault, which the first line tells
pub record TellsFaults (bundle : List ℕ) (found : Found) (sources : List (Option Source)) (text : List ℕ) : Type 0 where
  pub fault : Fault
  pub refused : IsRefused bundle fault
  pub known : fault.code ≢ faults.NO_MEMORY
  pub told : IsFaultsText found sources fault text

abbrev pub Tells : Bool → List ℕ → Found → List (Option Source) → List ℕ → Type 0
Tells true bundle found sources text = TellsFaults bundle found sources text
Tells false bundle found sources text = WarnsOf bundle sources text

-- faults are told, or where `mrp plan` accepts the tables, warnings
abbrev pub Inspects : Found → Inspected → Type 0
Inspects found result = (sources : List (Option Source)) × AreSourcesIn found sources × Tells result.has_faults (bundle_in found) found sources (flat_map string_bytes result.texts.items)
