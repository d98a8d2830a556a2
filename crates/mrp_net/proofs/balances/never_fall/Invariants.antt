use Rattle.std.proofs.Common.{◌≡◌}
use Rattle.mrp_phase.specs.Weeks.{in_week}
use Rattle.mrp_net.specs.Need.{IsNeed}
use Rattle.mrp_net.proofs.balances.never_fall.Given as goal

abbrev pub invariant-loop-quantity : goal.invariant-loop-quantity
invariant-loop-quantity l = record {
  before : l.before ≡ in_week l.receipts l.quantity-index;
  rises : IsNeed l.quantity-index (in_week l.receipts);
}
