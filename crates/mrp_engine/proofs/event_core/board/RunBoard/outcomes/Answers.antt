use Rattle.std.proofs.Common.{◌∙◌}
use Rattle.mrp_item.proofs.OutcomeLists.{places-next}
use Rattle.mrp_engine.proofs.event_core.board.RunBoard.outcomes.Goals as goal

pub loop-item-preserved : goal.loop-item-preserved
loop-item-preserved c =
    places-next c.args.self.now.inputs c.loop-item.all.items c.push.new.self.items c.in_ok-copy.field-0 c.loop-item.item c.loop-item.invariant c.in_ok-push.ensures.items (c.in_ok-copy.ensures ∙ c.outcome.ensures)
