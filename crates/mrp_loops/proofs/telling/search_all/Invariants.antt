use Rattle.mrp_loops.specs.Telling.{IsTelling}
use Rattle.mrp_loops.proofs.telling.search_all.Given as goal

abbrev pub invariant-loop-item : goal.invariant-loop-item
invariant-loop-item l = IsTelling l.lines l.count l.item l.telling
