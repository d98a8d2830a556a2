use Rattle.std.proofs.Common.{◌≡◌, ◌+◌, ◌≤◌}
use Rattle.mrp_qty.specs.Quantity.{greatest_quantity}
use Rattle.mrp_phase.specs.Weeks.{row, sum_to, greatest_to}
use Rattle.mrp_net.specs.Need.{need, shortage}
use Rattle.mrp_net.proofs.needs.needs_within.Given as goal

abbrev pub invariant-loop-i : goal.invariant-loop-i
invariant-loop-i l = record {
  required : l.so_far.0 ≡ sum_to l.gross l.i + l.fn.stock.safety;
  supplied : l.so_far.1.0 ≡ l.fn.stock.on_hand + sum_to l.scheduled l.i;
  required_within : l.so_far.0 ≤ greatest_quantity;
  supplied_within : l.so_far.1.0 ≤ greatest_quantity;
  shortage : l.so_far.1.1.0 ≡ greatest_to (shortage l.fn.stock l.gross) l.i;
  needs : l.needs.items ≡ row l.i (need l.fn.stock l.gross);
}
