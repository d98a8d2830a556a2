use Rattle.std.proofs.Common.{◌≡◌, ◌∙◌, ◌<◌, Option, false, true, ap, subst, sym}
use Rattle.std.specs.Prelude.{is_some}
use Rattle.mrp_item.specs.Inputs.{count}
use Rattle.mrp_item.specs.Places.{ItemOf}
use Rattle.mrp_board.specs.Board.{is_finished}
use Rattle.mrp_engine.specs.event_core.Board.{RunLog}
use Rattle.mrp_engine.proofs.lemmas.event_core.RunBoards.{finished-some}
use Rattle.mrp_engine.proofs.event_core.board.RunBoard.outcome.Goals as goal

pub unreachable-requires : goal.unreachable-requires
unreachable-requires c =
    let i = c.self.inside in
    let some = finished-some i.board i.state i.log.items c.args.item c.self.invariant (ap (λ (r : RunLog). is_finished r.inputs r.log) c.self.view_is ∙ c.requires.finished)
    (subst (λ (r : RunLog). c.args.item < count r.inputs) (sym c.self.view_is) c.requires.item) in
    let no : false ≡ true = ap (λ (o : Option ItemOf). is_some o) c.in-None.ensures.value ∙ some in
    absurd (let n : false ≡ true = no in cc)
