use Rattle.std.proofs.Common.{◌≡◌, ◌≢◌, ◌∙◌, [], Option, None, sym, ap, subst}
use Rattle.mrp_bill.specs.Shop.{Shop}
use Rattle.mrp_item.specs.Inputs.{inputs_of}
use Rattle.mrp_board.specs.declared.call.BoardCall.TheVariants as call
use Rattle.mrp_board.specs.Board.{board_reply}
use Rattle.mrp_engine.specs.event_core.Board.{RunLog}
use Rattle.mrp_engine.specs.event_core.Kept.{log_of}
use Rattle.mrp_engine.proofs.lemmas.event_core.CoreSteps.{on-err}
use Rattle.mrp_engine.proofs.lemmas.event_core.FirstTakes.{first-told}
use Rattle.mrp_engine.proofs.event_core.run.Run.take.Goals as goal

pub returns-in_err-begin-clause-memory : goal.returns-in_err-begin-clause-memory
returns-in_err-begin-clause-memory c =
    let i = c.self.inside in
    let s = inputs_of i.rows.value.tables i.snapshot in
    let now = c.args.self.now in
    let shop : c.deref-2.result.now ≡ i.rows.value = c.deref-2.ensures ∙ c.shop.ensures ∙ c.deref.ensures in
    let first = first-told s c.deref-2.result.now (sym (ap (λ (x : Shop). x.tables) shop)) c.tables-shop.ensures.accepted c.args.worker in
    let empty : record { inputs = s; log = [] } ≡ now = ap (λ (b : Option RunLog). record { inputs = s; log = log_of b }) (sym c.in_err-begin.ensures.memory) ∙ c.self.view_is in
    on-err (board_reply now.inputs now.log c.args.worker call.Take ≢ None) c.from_residual.result (subst (λ (r : RunLog). board_reply r.inputs r.log c.args.worker call.Take ≢ None) empty first)
