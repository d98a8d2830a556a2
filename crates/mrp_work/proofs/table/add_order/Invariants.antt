use Rattle.std.proofs.Common.{◌≡◌, ℕ, map, take}
use Rattle.mrp_work.specs.Table.{added, found_in}
use Rattle.mrp_work.specs.Work.{work_of}
use Rattle.mrp_work.proofs.table.add_order.Given as goal

abbrev pub invariant-loop-operation : goal.invariant-loop-operation
invariant-loop-operation l = (centre week : ℕ) → found_in l.found centre week ≡ added (found_in l.fn.found centre week) centre week (map (work_of l.order) (take l.operation-index l.operations))
