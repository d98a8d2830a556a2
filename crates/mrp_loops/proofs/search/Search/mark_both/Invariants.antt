use Rattle.mrp_loops.specs.Search.{MarksBothTo}
use Rattle.mrp_loops.proofs.search.Search.mark_both.Given as goal

abbrev pub invariant-loop-met : goal.invariant-loop-met
invariant-loop-met l = MarksBothTo l.met-index l.self l.other l.fn.marks.items l.marks.items
