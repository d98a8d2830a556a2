use Rattle.std.proofs.Common.{◌≡◌, ◌+◌, ◌≤◌}
use Rattle.mrp_qty.specs.Quantity.{greatest_quantity}
use Rattle.mrp_phase.specs.Weeks.{row, sum_to, in_week}
use Rattle.mrp_net.specs.Need.{balance}
use Rattle.mrp_net.proofs.balances.balances_within.Given as goal

abbrev pub invariant-loop-i : goal.invariant-loop-i
invariant-loop-i l = record {
  required : l.so_far.required ≡ sum_to l.gross l.i + l.fn.stock.safety;
  supplied : l.so_far.supplied ≡ l.fn.stock.on_hand + sum_to l.scheduled l.i;
  required_within : l.so_far.required ≤ greatest_quantity;
  supplied_within : l.so_far.supplied ≤ greatest_quantity;
  balances : l.balances.items ≡ row l.i (λ week. balance l.fn.stock l.gross (in_week l.received week) week);
}
