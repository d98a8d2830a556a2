use Rattle.std.proofs.Common.{◌≡◌, map}
use Rattle.mrp_page.specs.Template.{drawn_of, row_html}
use Rattle.mrp_page.proofs.Pieces.{so_far}
use Rattle.mrp_page.proofs.template.put_rows.Given as goal

abbrev pub invariant-loop-row : goal.invariant-loop-row
invariant-loop-row l = l.page ≡ so_far l.fn.page (row_html (map drawn_of l.parts)) l.rows l.row-index
