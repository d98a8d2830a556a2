use Rattle.std.proofs.Common.{take}
use Rattle.mrp_page.specs.Pegs.{HasPieces}
use Rattle.mrp_page.proofs.pegs.pieces_of_orders.Given as goal

abbrev pub invariant-loop-peg : goal.invariant-loop-peg
invariant-loop-peg l = HasPieces l.pieces (take l.peg-index l.pegs)
