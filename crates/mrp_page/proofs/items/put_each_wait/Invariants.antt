use Rattle.std.proofs.Common.{◌≡◌}
use Rattle.mrp_page.specs.Items.{wait_html}
use Rattle.mrp_page.proofs.Pieces.{so_far}
use Rattle.mrp_page.proofs.items.put_each_wait.Given as goal

abbrev pub invariant-loop-peg : goal.invariant-loop-peg
invariant-loop-peg l = l.page ≡ so_far l.fn.page (λ r. wait_html l.scene r.now) l.pegs l.peg-index
