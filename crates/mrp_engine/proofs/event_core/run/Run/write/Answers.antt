use Rattle.std.proofs.Common.{◌≡◌, ◌∙◌, [], Option, true, ap, inl, refl, subst, sym}
use Rattle.mrp_item.specs.Inputs.{Inputs, inputs_of}
use Rattle.mrp_report.specs.ReportText.{report_text}
use Rattle.mrp_engine.specs.day.Day.{IsPlannable}
use Rattle.mrp_board.specs.Board.{is_finished}
use Rattle.mrp_engine.specs.event_core.Board.{RunLog}
use Rattle.mrp_engine.specs.event_core.Kept.{log_of}
use Rattle.mrp_engine.proofs.lemmas.event_core.CoreSteps.{on-err}
use Rattle.mrp_engine.proofs.lemmas.event_core.RunReports.{empty-plannable, passed-over}
use Rattle.mrp_engine.proofs.event_core.run.Run.write.Goals as goal

pub returns-in_err-begin-clause-plannable : goal.returns-in_err-begin-clause-plannable
returns-in_err-begin-clause-plannable g c =
    let i = c.self.inside in
    let s = inputs_of i.rows.value.tables i.snapshot in
    let now = c.args.self.now in
    let empty : record { inputs = s; log = [] } ≡ now = ap (λ (b : Option RunLog). record { inputs = s; log = log_of b }) (sym c.in_err-begin.ensures.memory) ∙ c.self.view_is in
    let done : is_finished s [] ≡ true = ap (λ (r : RunLog). is_finished r.inputs r.log) empty ∙ sym c.is_finished.ensures ∙ c.if-not-is_finished.false in
    on-err (IsPlannable now.inputs) c.from_residual.result (subst (λ (r : RunLog). IsPlannable r.inputs) empty (empty-plannable s done))

pub first_over-requires : goal.first_over-requires
first_over-requires g c =
    let made : c.in-Some.board ≡ record { inputs = inputs_of c.self.inside.rows.value.tables c.self.inside.snapshot; log = log_of c.self.inside.board } = cc (c.in-Some.is, c.in_ok-begin.ensures.begun) in
    ap (λ (r : RunLog). is_finished r.inputs r.log) (made ∙ c.self.view_is) ∙ sym c.is_finished.ensures ∙ c.if-not-is_finished.false

pub returns-in_err-plan-clause-plannable : goal.returns-in_err-plan-clause-plannable
returns-in_err-plan-clause-plannable g c =
    let made : c.in-Some.board ≡ record { inputs = inputs_of c.self.inside.rows.value.tables c.self.inside.snapshot; log = log_of c.self.inside.board } = cc (c.in-Some.is, c.in_ok-begin.ensures.begun) in
    on-err (IsPlannable c.args.self.now.inputs) c.from_residual-in_err-plan.result
    (subst (λ (r : RunLog). IsPlannable r.inputs) (made ∙ c.self.view_is) (passed-over c.in-Some.board.inputs c.first_over.result c.first_over.ensures c.in_default-first_over.not-Some))

pub returns-in_err-report_of-clause-plannable : goal.returns-in_err-report_of-clause-plannable
returns-in_err-report_of-clause-plannable g c =
    let made : c.in-Some.board ≡ record { inputs = inputs_of c.self.inside.rows.value.tables c.self.inside.snapshot; log = log_of c.self.inside.board } = cc (c.in-Some.is, c.in_ok-begin.ensures.begun) in
    on-err (IsPlannable c.args.self.now.inputs) c.from_residual-in_err-report_of.result
    (subst (λ (r : RunLog). IsPlannable r.inputs) (made ∙ c.self.view_is) (passed-over c.in-Some.board.inputs c.first_over.result c.first_over.ensures c.in_default-first_over.not-Some))

pub returns-clause-report : goal.returns-clause-report
returns-clause-report g c done =
    let made : c.in-Some.board ≡ record { inputs = inputs_of c.self.inside.rows.value.tables c.self.inside.snapshot; log = log_of c.self.inside.board } = cc (c.in-Some.is, c.in_ok-begin.ensures.begun) in
    let from : c.in-Some.board.inputs ≡ c.args.self.now.inputs = ap (λ (r : RunLog). r.inputs) (made ∙ c.self.view_is) in
    inl (
      c.in_ok-report_of.field-0,
      refl,
      subst (λ (s : Inputs). IsPlannable s) from (passed-over c.in-Some.board.inputs c.first_over.result c.first_over.ensures c.in_default-first_over.not-Some),
      c.in_ok-report_of.ensures ∙ ap report_text (c.in_ok-plan.ensures.inputs ∙ from),
    )
