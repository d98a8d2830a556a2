use Rattle.std.proofs.Common.{◌≡◌, ℕ, take}
use Rattle.mrp_work.specs.Table.{added, found_in}
use Rattle.mrp_work.specs.Work.{all_work}
use Rattle.mrp_work.proofs.table.add_orders.Given as goal

abbrev pub invariant-loop-order : goal.invariant-loop-order
invariant-loop-order l = (centre week : ℕ) → found_in l.found centre week ≡ added (found_in l.fn.found centre week) centre week (all_work l.routings (take l.order-index l.orders))
