use Rattle.std.proofs.Common.{◌≡◌}
use Rattle.mrp_page.specs.Template.{flow_at}
use Rattle.mrp_page.proofs.Pieces.{so_far}
use Rattle.mrp_page.proofs.template.put_flows.Given as goal

abbrev pub invariant-loop-row : goal.invariant-loop-row
invariant-loop-row l = l.page ≡ so_far l.fn.page (flow_at l.column) l.rows l.row-index
