use Rattle.std.proofs.Common.{◌≡◌}
use Rattle.std.specs.Prelude.{flat_map}
use Rattle.mrp_phase.specs.Weeks.{in_week, weeks}
use Rattle.mrp_item.specs.Orders.{orders_due}
use Rattle.mrp_item.proofs.orders.orders_for.Given as goal

abbrev pub invariant-loop-place : goal.invariant-loop-place
invariant-loop-place l = record {
  orders : l.list ≡ flat_map (orders_due l.inputs l.item l.receipts) (weeks l.place);
  before : l.before ≡ in_week l.receipts l.place;
}
