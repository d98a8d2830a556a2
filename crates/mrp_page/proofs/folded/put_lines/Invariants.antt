use Rattle.std.proofs.Common.{◌≡◌}
use Rattle.mrp_page.proofs.Pieces.{so_far}
use Rattle.mrp_page.proofs.folded.put_lines.Given as goal

abbrev pub invariant-loop-row : goal.invariant-loop-row
invariant-loop-row g l = l.page ≡ so_far l.fn.page (λ r. (g.L.Lines.drawn l.lines).line r.now) l.rows l.row-index
