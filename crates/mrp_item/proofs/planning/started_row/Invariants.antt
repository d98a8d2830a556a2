use Rattle.std.proofs.Common.{◌≡◌, take}
use Rattle.mrp_phase.specs.Weeks.{row}
use Rattle.mrp_item.specs.Orders.{started_in}
use Rattle.mrp_item.proofs.planning.started_row.Given as goal

abbrev pub invariant-loop-order : goal.invariant-loop-order
invariant-loop-order l = l.started ≡ row l.weeks (started_in (take l.order-index l.orders))
