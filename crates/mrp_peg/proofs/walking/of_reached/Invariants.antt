use Rattle.std.proofs.Common.{◌≡◌, take, filter}
use Rattle.mrp_peg.specs.Walk.{is_reached}
use Rattle.mrp_peg.proofs.walking.of_reached.Given as goal

abbrev pub invariant-loop-peg : goal.invariant-loop-peg
invariant-loop-peg l = l.own.items ≡ filter (λ g. is_reached l.orders.keys l.item g.supply) (take l.peg-index l.pegs)
