use Rattle.std.proofs.Common.{◌∙◌, ap}
use Rattle.std.proofs.lemmas.Result.{IfOk-weaker}
use Rattle.mrp_warn.specs.declared.limits.TheConstants as limits
use Rattle.mrp_warn.specs.Rows.{first_likely, told}
use Rattle.mrp_warn.specs.Runs.{odd_run}
use Rattle.mrp_warn.proofs.runs.run_warnings.Goals as goal

pub returns : goal.returns
returns c =
    let values = c.deref-2.ensures.value ∙ c.in_ok-runs.ensures in
    let likely = c.first_likely-likely.ensures ∙ ap (first_likely limits.LIKELY_RUN limits.LIKELY_MOST_RUN) (c.deref.ensures.value ∙ c.in_ok-runs.ensures) in
    IfOk-weaker c.told_runs.result _ _ (λ own is. is ∙ (λ i. told (odd_run (likely i)) (values i))) c.told_runs.ensures
