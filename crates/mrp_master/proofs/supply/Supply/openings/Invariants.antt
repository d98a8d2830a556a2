use Rattle.mrp_master.proofs.Openings.{Opened}
use Rattle.mrp_master.proofs.supply.Supply.openings.Given as goal

abbrev pub invariant-loop-line : goal.invariant-loop-line
invariant-loop-line l = Opened l.self l.item l.line-index l.line-items l.openings.items
