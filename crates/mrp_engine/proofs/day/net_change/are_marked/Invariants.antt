use Rattle.std.proofs.Common.{◌≡◌, true, false}
use Rattle.std.specs.List.{AllWithin, slice_index_or}
use Rattle.mrp_engine.proofs.day.net_change.are_marked.Given as goal

abbrev pub invariant-loop-item : goal.invariant-loop-item
invariant-loop-item l = AllWithin (λ i. slice_index_or l.marks i false ≡ true) l.items 0 l.item-index
