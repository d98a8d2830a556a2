use Rattle.std.proofs.Common.{◌≡◌, map}
use Rattle.std.specs.Option.{option_copied}
use Rattle.mrp_page.specs.Template.{dated_html, drawn_of}
use Rattle.mrp_page.proofs.Pieces.{so_far}
use Rattle.mrp_page.proofs.template.put_dated_rows.Given as goal

abbrev pub invariant-loop-row : goal.invariant-loop-row
invariant-loop-row l = l.page ≡ so_far l.fn.page (dated_html (option_copied l.tables) (map drawn_of l.parts)) l.rows l.row-index
