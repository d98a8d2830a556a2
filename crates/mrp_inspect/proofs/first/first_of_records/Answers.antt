use Rattle.std.proofs.Common.{◌≡◌, ◌∙◌, List, Some, ap, sym}
use Rattle.std.specs.Prelude.{slice_get}
use Rattle.mrp_rows.specs.declared.fault.Fault.{Fault}
use Rattle.mrp_survey.specs.Finding.{Told}
use Rattle.mrp_inspect.proofs.FirstLines.{some-finding}
use Rattle.mrp_inspect.proofs.first.first_of_records.Goals as goal

pub returns-in-Some : goal.returns-in-Some
returns-in-Some c =
    let survey = c.args.survey.now in
    let first : slice_get survey.findings 0 ≡ Some c.in-Some.finding.now = ap (λ (fs : List Told). slice_get fs 0) (sym c.findings.ensures) ∙ sym c.in-Some.ensures.value in
    ap (λ (f : Fault). Some f) c.finding_fault.ensures ∙ sym (some-finding survey c.in-Some.finding.now first)
