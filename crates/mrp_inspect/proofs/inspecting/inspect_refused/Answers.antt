use Rattle.std.proofs.Common.{ℕ, List, Option, subst}
use Rattle.std.specs.Prelude.{Err, flat_map, string_bytes}
use Rattle.mrp_rows.specs.declared.fault.Fault.{Fault}
use Rattle.mrp_script.specs.Opened.{Opens}
use Rattle.mrp_script.specs.declared.fault.OpenFault.{OpenFault}
use Rattle.mrp_script.specs.declared.fault.OpenFault.TheVariants.{Refused}
use Rattle.mrp_survey.specs.declared.source.Source.{Source}
use Rattle.mrp_inspect.specs.declared.found.Found.{Found}
use Rattle.mrp_inspect.specs.Inspected.{IsFaultsText, TellsFaults}
use Rattle.mrp_inspect.proofs.inspecting.inspect_refused.Goals as goal

tells-faults : (bundle : List ℕ) (found : Found) (sources : List (Option Source)) (fault : Fault) (text : List ℕ) → Opens bundle (Err (Refused fault)) → IsFaultsText found sources fault text → TellsFaults bundle found sources text
tells-faults bundle found sources fault text refuses told = record { fault = fault; refused = refuses.0; known = refuses.1; told = told }

pub returns-in_ok-told-in-Refused : goal.returns-in_ok-told-in-Refused
returns-in_ok-told-in-Refused g c = λ bundle sources opens surveys.
    let fault = c.in-Refused.fault in
    let refuses : Opens bundle (Err (Refused fault)) = subst (λ (e : OpenFault). Opens bundle (Err e)) c.in-Refused.is opens in
    tells-faults bundle c.args.found.now sources fault (flat_map string_bytes c.in_ok-told-in-Refused.told.items) refuses (c.in_ok-told-in-Refused.ensures sources surveys)
