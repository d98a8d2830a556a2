use Rattle.std.proofs.Common.{◌≡◌, ℕ, Bool, true, false, List, Option, refl, subst}
use Rattle.std.specs.Prelude.{flat_map, string_bytes}
use Rattle.mrp_rows.specs.declared.fault.Fault.{Fault}
use Rattle.mrp_tables.specs.Tables.{Tables}
use Rattle.mrp_script.specs.Opened.{IsAccepted, IsRefused}
use Rattle.mrp_script.proofs.OneOpening.{accepted-not-refused, one-fault}
use Rattle.mrp_survey.specs.declared.source.Source.{Source}
use Rattle.mrp_inspect.specs.declared.found.Found.{Found}
use Rattle.mrp_inspect.specs.Inspected.{IsFaultsText, Tells, bundle_in}
use Rattle.mrp_inspect.proofs.laws.faults_are_of_refused_tables.Goals as goal

of-accepted : (told : Bool) (bundle : List ℕ) (found : Found) (sources : List (Option Source)) (text : List ℕ) (tables : Tables) → Tells told bundle found sources text → IsAccepted bundle tables → told ≡ false
of-accepted false bundle found sources text tables tells accepted = refl
of-accepted true bundle found sources text tables tells accepted = absurd (accepted-not-refused bundle tables tells.fault accepted tells.refused)

of-refused : (told : Bool) (bundle : List ℕ) (found : Found) (sources : List (Option Source)) (text : List ℕ) (fault : Fault) → Tells told bundle found sources text → IsRefused bundle fault → told ≡ true
of-refused true bundle found sources text fault tells refused = refl
of-refused false bundle found sources text fault tells refused = absurd (accepted-not-refused bundle tells.tables fault tells.accepted refused)

of-first : (told : Bool) (bundle : List ℕ) (found : Found) (sources : List (Option Source)) (text : List ℕ) (fault : Fault) → Tells told bundle found sources text → IsRefused bundle fault → IsFaultsText found sources fault text
of-first true bundle found sources text fault tells refused = subst (λ (f : Fault). IsFaultsText found sources f text) (one-fault bundle tells.fault fault tells.refused refused) tells.told
of-first false bundle found sources text fault tells refused = absurd (accepted-not-refused bundle tells.tables fault tells.accepted refused)

pub returns-clause-accepted : goal.returns-clause-accepted
returns-clause-accepted c found result tables (sources, are, tells) accepted = of-accepted result.has_faults (bundle_in found) found sources (flat_map string_bytes result.texts.items) tables tells accepted

pub returns-clause-refused : goal.returns-clause-refused
returns-clause-refused c found result fault (sources, are, tells) refused = of-refused result.has_faults (bundle_in found) found sources (flat_map string_bytes result.texts.items) fault tells refused

pub returns-clause-first : goal.returns-clause-first
returns-clause-first c found result fault (sources, are, tells) refused =
    (sources, are, of-first result.has_faults (bundle_in found) found sources (flat_map string_bytes result.texts.items) fault tells refused)
