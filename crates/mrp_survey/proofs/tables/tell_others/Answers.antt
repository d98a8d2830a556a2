use Rattle.std.proofs.Common.{◌≡◌, ◌∙◌, ◌++◌, List, Result, Vec, ap₂, subst}
use Rattle.std.specs.Prelude.{IfOk}
use Rattle.std.specs.declared.alloc.Global.{Global}
use Rattle.std.proofs.lemmas.Result.{IfOk-weaker, on_ok_weaker}
use Rattle.mrp_qty.specs.declared.memory.NoMemory.{NoMemory}
use Rattle.mrp_survey.specs.declared.tables.FirstTold.{FirstTold}
use Rattle.mrp_survey.specs.Finding.{Told}
use Rattle.mrp_survey.specs.InTwo.{IsFirstTold}
use Rattle.mrp_survey.specs.Survey.{last_told}
use Rattle.mrp_survey.proofs.tables.tell_others.Goals as goal

pub returns-clause-told : goal.returns-clause-told
returns-clause-told g c =
    let sources = c.args.sources.now in
    let beside = c.args.beside.now in
    let first : IsFirstTold sources beside c.args.findings.now.items c.in_ok-first.first = subst (λ (r : Result FirstTold NoMemory). IfOk r (IsFirstTold sources beside c.args.findings.now.items)) c.in_ok-first.was c.join-last.ensures.second.1.1 in
    let last : c.in_ok-last.last.items ≡ last_told sources beside c.args.version =
    subst (λ (r : Result (Vec Told Global) NoMemory). IfOk r (λ findings. findings.items ≡ last_told sources beside c.args.version)) c.in_ok-last.was c.join-last.ensures.first in
    on_ok_weaker c.put_last.result (λ e. e ∙ ap₂ (λ (xs ys : List Told). xs ++ ys) first.findings last) c.put_last.ensures.findings

pub returns-clause-loops : goal.returns-clause-loops
returns-clause-loops g c =
    let sources = c.args.sources.now in
    let beside = c.args.beside.now in
    let first : IsFirstTold sources beside c.args.findings.now.items c.in_ok-first.first = subst (λ (r : Result FirstTold NoMemory). IfOk r (IsFirstTold sources beside c.args.findings.now.items)) c.in_ok-first.was c.join-last.ensures.second.1.1 in
    IfOk-weaker c.put_last.result _ _ (λ loops e. rw e first.loops) c.put_last.ensures.loops
