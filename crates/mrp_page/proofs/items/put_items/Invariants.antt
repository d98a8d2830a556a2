use Rattle.std.proofs.Common.{◌≡◌}
use Rattle.mrp_page.specs.Items.{item_html}
use Rattle.mrp_page.proofs.Pieces.{so_far}
use Rattle.mrp_page.proofs.items.put_items.Given as goal

abbrev pub invariant-loop-leader : goal.invariant-loop-leader
invariant-loop-leader l = l.page ≡ so_far l.fn.page (λ r. item_html l.scene l.rows l.missed r.now) l.leaders l.leader-index
