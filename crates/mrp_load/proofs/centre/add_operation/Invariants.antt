use Rattle.std.proofs.Common.{◌≡◌, ◌+◌, length, take}
use Rattle.mrp_phase.specs.Weeks.{in_week, row}
use Rattle.mrp_load.specs.Loads.{operation_load}
use Rattle.mrp_load.proofs.centre.add_operation.Given as goal

abbrev pub invariant-loop-order : goal.invariant-loop-order
invariant-loop-order l =
    l.loads.items ≡ row (length l.fn.loads.items) (λ week. in_week l.fn.loads.items week + operation_load (take l.order-index l.orders) l.operation week)
