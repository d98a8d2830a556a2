-- The rows of accepted tables are within the limits of a supply.
use Rattle.std.proofs.Common.{refl}
use Rattle.mrp_master.proofs.ByItem.{firm_count}
use Rattle.mrp_master.proofs.Supplied.{rows_are_supply}
use Rattle.mrp_master.proofs.supply.Supply.of.Goals as goal

pub invariant_of-result : goal.invariant_of-result
invariant_of-result c = (
  rows_are_supply _ c.stock.result.now c.master.result.now _ _ _ _ _ _ c.weeks.ensures.bound (cc) c.stock.ensures.within c.stock.ensures.once
      c.master.ensures.within c.master.ensures.count c.in_ok-on_hand.ensures c.in_ok-firm_rows.ensures,
  firm_count c.master.result.now _ _ _ _ _ refl c.in_ok-firm_rows.ensures c.in_ok-masters.ensures,
)
