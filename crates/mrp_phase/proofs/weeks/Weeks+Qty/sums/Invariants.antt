use Rattle.std.proofs.Common.{◌≡◌, take}
use Rattle.std.specs.Prelude.{sum}
use Rattle.mrp_phase.specs.Weeks.{row, sum_to}
use Rattle.mrp_phase.proofs.weeks.Weeks+Qty.sums.Given as goal

abbrev pub invariant-loop-quantity : goal.invariant-loop-quantity
invariant-loop-quantity l = record {
  so_far : l.so_far ≡ sum (take l.quantity-index l.quantities);
  rows : l.sums.items ≡ row l.quantity-index (sum_to l.quantities);
}
