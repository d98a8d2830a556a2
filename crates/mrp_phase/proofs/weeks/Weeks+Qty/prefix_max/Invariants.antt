use Rattle.std.proofs.Common.{◌≡◌}
use Rattle.mrp_phase.specs.Weeks.{row, in_week, greatest_to}
use Rattle.mrp_phase.proofs.weeks.Weeks+Qty.prefix_max.Given as goal

abbrev pub invariant-loop-quantity : goal.invariant-loop-quantity
invariant-loop-quantity l = record {
  so_far : l.so_far ≡ greatest_to (in_week l.quantities) l.quantity-index;
  rows : l.greatest.items ≡ row l.quantity-index (greatest_to (in_week l.quantities));
}
