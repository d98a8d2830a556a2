use Rattle.std.proofs.Common.{◌≡◌}
use Rattle.mrp_page.specs.Items.{index_line}
use Rattle.mrp_page.proofs.Pieces.{so_far}
use Rattle.mrp_page.proofs.items.put_index_lines.Given as goal

abbrev pub invariant-loop-leader : goal.invariant-loop-leader
invariant-loop-leader l = l.page ≡ so_far l.fn.page (λ r. index_line l.messages r.now) l.leaders l.leader-index
