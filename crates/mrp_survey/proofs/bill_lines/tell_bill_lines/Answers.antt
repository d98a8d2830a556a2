use Rattle.std.proofs.Common.{◌∙◌, Result, subst}
use Rattle.std.specs.Prelude.{IfOk}
use Rattle.std.proofs.lemmas.Result.{IfOk-weaker, on_ok_weaker}
use Rattle.mrp_qty.specs.declared.memory.NoMemory.{NoMemory}
use Rattle.mrp_survey.specs.declared.bill_lines.BillsTold.{BillsTold}
use Rattle.mrp_survey.specs.BillParts.{TellsBack, TellsFront}
use Rattle.mrp_survey.proofs.BillParts.{both-lines, both-told}
use Rattle.mrp_survey.proofs.bill_lines.tell_bill_lines.Goals as goal

pub returns-clause-told : goal.returns-clause-told
returns-clause-told g c =
    let form = c.args.form in
    let beside = c.args.beside.now in
    let sheet = c.args.sheet.now in
    let past = c.middle-middle.result in
    let before = c.args.findings.now.items in
    let front : TellsFront form beside sheet before c.args.records.now past c.in_ok-front.front = subst (λ (r : Result BillsTold NoMemory). IfOk r (TellsFront form beside sheet before c.args.records.now past)) c.in_ok-front.was c.join-front.ensures.first.1.1 in
    let back : TellsBack form beside sheet c.args.again.now past c.in_ok-back.back = subst (λ (r : Result BillsTold NoMemory). IfOk r (TellsBack form beside sheet c.args.again.now past)) c.in_ok-back.was c.join-front.ensures.second.1.1 in
    on_ok_weaker c.join_told.result (λ e. e ∙ both-told form beside sheet before past c.args.records.now c.args.again.now _ _ c.requires.same front back) c.join_told.ensures.findings

pub returns-clause-lines : goal.returns-clause-lines
returns-clause-lines g c =
    let form = c.args.form in
    let beside = c.args.beside.now in
    let sheet = c.args.sheet.now in
    let past = c.middle-middle.result in
    let before = c.args.findings.now.items in
    let front : TellsFront form beside sheet before c.args.records.now past c.in_ok-front.front = subst (λ (r : Result BillsTold NoMemory). IfOk r (TellsFront form beside sheet before c.args.records.now past)) c.in_ok-front.was c.join-front.ensures.first.1.1 in
    let back : TellsBack form beside sheet c.args.again.now past c.in_ok-back.back = subst (λ (r : Result BillsTold NoMemory). IfOk r (TellsBack form beside sheet c.args.again.now past)) c.in_ok-back.was c.join-front.ensures.second.1.1 in
    IfOk-weaker c.join_told.result _ _ (λ lines e. e ∙ both-lines form beside sheet before past c.args.records.now c.args.again.now _ _ c.requires.same front back) c.join_told.ensures.lines
