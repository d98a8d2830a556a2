use Rattle.std.proofs.Common.{◌≡◌, take}
use Rattle.mrp_peg.proofs.demand.copy_of.Given as goal

abbrev pub invariant-loop-quantity : goal.invariant-loop-quantity
invariant-loop-quantity l = l.copy.items ≡ take l.quantity-index l.quantities
