use Rattle.std.proofs.Common.{◌≡◌, take}
use Rattle.mrp_work.specs.Work.{total}
use Rattle.mrp_work.proofs.order.total.Given as goal

abbrev pub invariant-loop-work : goal.invariant-loop-work
invariant-loop-work l = l.sum ≡ total (take l.work-index l.works)
