use Rattle.std.proofs.Common.{◌≡◌, ◌∙◌, ◌++◌, ◌∷◌, List, None, Err, ap, arith, subst, sym}
use Rattle.std.specs.List.{AllZip}
use Rattle.std.proofs.lemmas.List.{append-nil, nil_from_length}
use Rattle.mrp_engine.specs.day.Planned.{PlansRun}
use Rattle.mrp_engine.specs.live.Runs.{PlansAll, RunResult, refusal_among}
use Rattle.mrp_script.proofs.ScriptCalls.{none-given}
use Rattle.mrp_engine.proofs.lemmas.live.Refusals.{all-planned, memory-first, no-refusal, none-lacks, none-refused, planned, refusal}
use Rattle.mrp_engine.proofs.live.merging.plans_of.Goals as goal

pub returns-in-Some-clause-plans : goal.returns-in-Some-clause-plans
returns-in-Some-clause-plans c all zip =
    refusal all c.args.runs.items c.in-Some.fault zip (sym (c.refusal_among.ensures ∙ ap refusal_among c.as_slice.ensures.value) ∙ c.in-Some.is)

pub returns-in_err-run-clause-plans : goal.returns-in_err-run-clause-plans
returns-in_err-run-clause-plans c all zip =
    let results = c.args.runs.items in
    let plans = c.loop-run.plans.items in
    let fault = c.in_err-run.field-0.0 in
    let left = c.next.new.self.rest.items in
    let are : results ≡ planned plans ++ Err fault ∷ left =
    c.loop-run.invariant ∙ ap (λ (rest : List RunResult). planned plans ++ rest) c.in-Some-run.ensures.steps.0 ∙ ap (λ (run : RunResult). planned plans ++ run ∷ left) c.in_err-run.was in
    let none : refusal_among results ≡ None = sym (c.refusal_among.ensures ∙ ap refusal_among c.as_slice.ensures.value) ∙ none-given c.refusal_among.result c.in_default.not-Some in
    no-refusal {X = PlansAll all c.from_residual-in_err-run.result} results plans fault left are (none-refused results none)

pub returns-clause-plans : goal.returns-clause-plans
returns-clause-plans c all zip =
    let plans = c.loop-run.plans.items in
    let rest = c.loop-run.run-iterator.rest in
    let none = c.in-None.ensures.steps.0 in
    let whole : c.args.runs.items ≡ planned plans =
    c.loop-run.invariant ∙ ap (λ (r : List RunResult). planned plans ++ r) (nil_from_length rest.items (omega (arith, none, rest.ok.0))) ∙ append-nil (planned plans) in
    all-planned all plans (subst (AllZip PlansRun all) whole zip)

pub returns-in-Some-clause-memory : goal.returns-in-Some-clause-memory
returns-in-Some-clause-memory c lacks =
    ap Err (memory-first c.args.runs.items c.in-Some.fault (sym (c.refusal_among.ensures ∙ ap refusal_among c.as_slice.ensures.value) ∙ c.in-Some.is) lacks)

pub returns-in_err-run-clause-memory : goal.returns-in_err-run-clause-memory
returns-in_err-run-clause-memory c lacks =
    none-lacks c.args.runs.items (sym (c.refusal_among.ensures ∙ ap refusal_among c.as_slice.ensures.value) ∙ none-given c.refusal_among.result c.in_default.not-Some) lacks

pub returns-clause-memory : goal.returns-clause-memory
returns-clause-memory c lacks =
    none-lacks c.args.runs.items (sym (c.refusal_among.ensures ∙ ap refusal_among c.as_slice.ensures.value) ∙ none-given c.refusal_among.result c.in_default.not-Some) lacks
