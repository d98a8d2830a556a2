use Rattle.std.proofs.Common.{◌≡◌, ◌∙◌, ◌<◌, ap, subst, sym}
use Rattle.mrp_item.specs.Inputs.{Inputs, count}
use Rattle.mrp_item.specs.Made.{parents_from}
use Rattle.mrp_board.specs.Board.{settled_by}
use Rattle.mrp_engine.specs.event_core.Board.{RunLog}
use Rattle.mrp_engine.proofs.lemmas.event_core.RunBoards.{settled-given}
use Rattle.mrp_engine.proofs.event_core.board.RunBoard.plan_held.Goals as goal

pub plan_item-requires-clause-item : goal.plan_item-requires-clause-item
plan_item-requires-clause-item c =
    let i = c.self.inside in
    let given = settled-given i.board i.log.items c.args.worker c.in-Item.item c.in-Item.parents c.in-Some.last.now c.self.invariant.legal
    (ap (λ (r : RunLog). settled_by c.args.worker r.log) c.self.view_is ∙ sym c.in-Some.ensures) c.in-Item.is in
    subst (λ (s : Inputs). c.in-Item.item < count s) (sym c.inputs.ensures) given.0

pub plan_item-requires-clause-parents : goal.plan_item-requires-clause-parents
plan_item-requires-clause-parents c =
    let i = c.self.inside in
    let given = settled-given i.board i.log.items c.args.worker c.in-Item.item c.in-Item.parents c.in-Some.last.now c.self.invariant.legal
    (ap (λ (r : RunLog). settled_by c.args.worker r.log) c.self.view_is ∙ sym c.in-Some.ensures) c.in-Item.is in
    c.as_slice.ensures ∙ subst (λ (s : Inputs). c.in-Item.parents ≡ parents_from s c.in-Item.item) (sym c.inputs.ensures) given.1
