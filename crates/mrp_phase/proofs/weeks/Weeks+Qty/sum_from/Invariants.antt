use Rattle.std.proofs.Common.{◌≡◌, ◌+◌, ◌≤◌}
use Rattle.mrp_qty.specs.Quantity.{greatest_quantity}
use Rattle.mrp_phase.specs.Weeks.{sum_to}
use Rattle.mrp_phase.proofs.weeks.Weeks+Qty.sum_from.Given as goal

abbrev pub invariant-loop-quantity : goal.invariant-loop-quantity
invariant-loop-quantity l = record {
  so_far : l.so_far ≡ l.fn.first + sum_to l.quantities l.quantity-index;
  within : l.so_far ≤ greatest_quantity;
}
