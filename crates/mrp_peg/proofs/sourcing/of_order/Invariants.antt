use Rattle.std.proofs.Common.{◌≡◌, take, filter}
use Rattle.mrp_peg.specs.Causes.{is_order}
use Rattle.mrp_peg.proofs.sourcing.of_order.Given as goal

abbrev pub invariant-loop-peg : goal.invariant-loop-peg
invariant-loop-peg l = l.own.items ≡ filter (λ g. is_order l.number g.supply) (take l.peg-index l.pegs)
