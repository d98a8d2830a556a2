use Rattle.std.proofs.Common.{◌≡◌}
use Rattle.std.specs.List.{range_with_len}
use Rattle.mrp_item.specs.Made.{items_from}
use Rattle.mrp_engine.proofs.event_core.board.RunBoard.outcomes.Given as goal

abbrev pub invariant-loop-item : goal.invariant-loop-item
invariant-loop-item l = l.all.items ≡ items_from l.self.inputs (range_with_len 0 l.item)
