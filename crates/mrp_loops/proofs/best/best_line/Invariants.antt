use Rattle.std.proofs.Common.{ℕ}
use Rattle.mrp_loops.specs.Best.{Beats}
use Rattle.mrp_loops.specs.Needs.{line_at}
use Rattle.mrp_loops.specs.Search.{far_at}
use Rattle.mrp_loops.specs.Walk.{lines_left}
use Rattle.mrp_loops.proofs.Bested.{IsLineTo}
use Rattle.mrp_loops.proofs.Listed.{AreDone}
use Rattle.mrp_loops.proofs.best.best_line.Given as goal

abbrev pub invariant-loop-line : goal.invariant-loop-line
invariant-loop-line l = record {
  line : IsLineTo l.links.lines.items l.far l.item l.best;
  done : AreDone (λ (k : ℕ). Beats l.best (far_at l.far (line_at l.links.lines.items k).parent) k) l.links.lines.items l.item l.line;
}

abbrev pub decreases-loop-line : goal.decreases-loop-line
decreases-loop-line l = lines_left l.line
