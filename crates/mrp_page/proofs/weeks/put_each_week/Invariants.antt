use Rattle.std.proofs.Common.{◌≡◌}
use Rattle.std.specs.Option.{option_copied}
use Rattle.mrp_page.specs.Weeks.{week_html}
use Rattle.mrp_page.proofs.Pieces.{so_far}
use Rattle.mrp_page.proofs.weeks.put_each_week.Given as goal

abbrev pub invariant-loop-row : goal.invariant-loop-row
invariant-loop-row l = l.page ≡ so_far l.fn.page (week_html (option_copied l.tables)) l.rows l.row-index
