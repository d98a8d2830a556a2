use Rattle.std.proofs.Common.{◌≡◌, map, take}
use Rattle.mrp_item.specs.Made.{items_from}
use Rattle.mrp_engine.proofs.day.net_change.copies_for.Given as goal

abbrev pub invariant-loop-parent : goal.invariant-loop-parent
invariant-loop-parent g l = map g.P.Planner.item_of l.copies.items ≡ items_from l.inputs (take l.parent-index l.parents)
