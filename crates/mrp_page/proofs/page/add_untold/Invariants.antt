use Rattle.std.proofs.Common.{◌≡◌, map}
use Rattle.mrp_page.specs.Page.{untold_rows}
use Rattle.mrp_page.proofs.Pieces.{so_far}
use Rattle.mrp_page.proofs.page.add_untold.Given as goal

abbrev pub invariant-loop-leader : goal.invariant-loop-leader
invariant-loop-leader l = map (λ r. r.now) l.rows.items ≡ so_far (map (λ r. r.now) l.fn.rows.items) (λ r. untold_rows l.messages r.now) l.leaders l.leader-index
