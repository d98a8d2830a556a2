use Rattle.std.proofs.Common.{Result, subst}
use Rattle.std.specs.Prelude.{Err, IfOk, Ok}
use Rattle.mrp_bill.specs.Shop.{Shop}
use Rattle.mrp_qty.specs.declared.memory.NoMemory.{NoMemory}
use Rattle.mrp_script.specs.Opened.{IsAccepted, Opens}
use Rattle.mrp_script.specs.declared.fault.OpenFault.{OpenFault}
use Rattle.mrp_survey.specs.declared.begun.Progress.{Progress}
use Rattle.mrp_survey.specs.Survey.{IsProgress}
use Rattle.mrp_inspect.proofs.inspecting.inspect_sources.Goals as goal

pub inspect_accepted-requires-clause-accepted : goal.inspect_accepted-requires-clause-accepted
inspect_accepted-requires-clause-accepted g c = λ _ _. subst (λ (r : Result Shop OpenFault). Opens c.args.bundle.now r) c.in-Ok.is c.begin_and_open-begun.ensures.opened

pub survey_refused-requires-clause-progress : goal.survey_refused-requires-clause-progress
survey_refused-requires-clause-progress g c = λ _ _. subst (λ (r : Result Progress NoMemory). IfOk r (IsProgress c.args.sources.now)) c.in_ok-progress.was c.begin_and_open-begun.ensures.begun

pub returns-in-Ok : goal.returns-in-Ok
returns-in-Ok g c = c.inspect_accepted.ensures c.args.found.now

pub returns-in-Err : goal.returns-in-Err
returns-in-Err g c = c.survey_refused.ensures c.args.bundle.now (subst (λ (r : Result Shop OpenFault). Opens c.args.bundle.now r) c.in-Err.is c.begin_and_open-begun.ensures.opened)
