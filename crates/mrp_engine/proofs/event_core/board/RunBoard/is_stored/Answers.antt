use Rattle.std.proofs.Common.{◌∙◌, ◌<◌, Option, ap, subst, sym}
use Rattle.std.specs.Prelude.{is_some}
use Rattle.mrp_item.specs.Inputs.{count}
use Rattle.mrp_item.specs.Places.{ItemOf}
use Rattle.mrp_board.specs.Board.{is_stored}
use Rattle.mrp_engine.specs.event_core.Board.{RunLog}
use Rattle.mrp_engine.proofs.lemmas.event_core.RunBoards.{copied-some, item-stored}
use Rattle.mrp_engine.proofs.event_core.board.RunBoard.is_stored.Goals as goal

pub returns : goal.returns
returns c =
    let i = c.self.inside in
    c.is_some.ensures
    ∙ sym (copied-some c.outcome.result)
    ∙ ap (λ (o : Option ItemOf). is_some o) c.outcome.ensures.value
    ∙ item-stored i.board i.state i.log.items c.args.item c.self.invariant (subst (λ (r : RunLog). c.args.item < count r.inputs) (sym c.self.view_is) c.requires)
    ∙ ap (λ (r : RunLog). is_stored r.log c.args.item) c.self.view_is
