use Rattle.std.proofs.Common.{◌≡◌}
use Rattle.std.specs.Option.{option_copied}
use Rattle.mrp_page.specs.Centres.{centre_html}
use Rattle.mrp_page.proofs.Pieces.{so_far}
use Rattle.mrp_page.proofs.centres.put_each_centre.Given as goal

abbrev pub invariant-loop-leader : goal.invariant-loop-leader
invariant-loop-leader l = l.page ≡ so_far l.fn.page (λ r. centre_html (option_copied l.tables) l.loads r.now) l.leaders l.leader-index
