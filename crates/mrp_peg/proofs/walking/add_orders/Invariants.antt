use Rattle.std.proofs.Common.{◌≡◌, fold, take}
use Rattle.mrp_peg.specs.Walk.{with_item, with_order}
use Rattle.mrp_peg.proofs.walking.add_orders.Given as goal

abbrev pub invariant-loop-peg : goal.invariant-loop-peg
invariant-loop-peg l = record {
  orders : l.orders.keys ≡ fold (with_order l.bills) l.initial.orders.keys (take l.peg-index l.pegs);
  items : l.items.keys ≡ fold (with_item l.bills) l.initial.items.keys (take l.peg-index l.pegs);
}
