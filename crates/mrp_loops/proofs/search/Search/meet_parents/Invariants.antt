use Rattle.std.proofs.Common.{◌+◌}
use Rattle.mrp_loops.specs.Search.{Extends, IsPassed, IsSearch}
use Rattle.mrp_loops.specs.Walk.{lines_left}
use Rattle.mrp_loops.proofs.Listed.{AreDone}
use Rattle.mrp_loops.proofs.search.Search.meet_parents.Given as goal

abbrev pub invariant-loop-line : goal.invariant-loop-line
invariant-loop-line l = record {
  search : IsSearch l.links.lines.items l.ranks l.from l.next l.self;
  extends : Extends l.fn.self l.self;
  done : AreDone (IsPassed l.links.lines.items l.ranks l.from l.self.far.items (l.far + 1)) l.links.lines.items l.item l.line;
}

abbrev pub decreases-loop-line : goal.decreases-loop-line
decreases-loop-line l = lines_left l.line
