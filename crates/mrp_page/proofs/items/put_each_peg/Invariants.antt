use Rattle.std.proofs.Common.{◌≡◌}
use Rattle.mrp_page.specs.Items.{peg_html}
use Rattle.mrp_page.proofs.Pieces.{so_far}
use Rattle.mrp_page.proofs.items.put_each_peg.Given as goal

abbrev pub invariant-loop-peg : goal.invariant-loop-peg
invariant-loop-peg l = l.page ≡ so_far l.fn.page (peg_html l.scene) l.pegs l.peg-index
