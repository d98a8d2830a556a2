use Rattle.std.proofs.Common.{◌≡◌}
use Rattle.mrp_page.specs.Shares.{minutes_at}
use Rattle.mrp_page.proofs.Pieces.{so_far}
use Rattle.mrp_page.proofs.centres.put_each_time.Given as goal

abbrev pub invariant-loop-row : goal.invariant-loop-row
invariant-loop-row l = l.page ≡ so_far l.fn.page (minutes_at l.column) l.rows l.row-index
