use Rattle.std.proofs.Common.{◌≡◌, ◌-◌, length, sum_by, take}
use Rattle.mrp_page.specs.Row.{cell_at}
use Rattle.mrp_page.specs.Rows.{rows_named}
use Rattle.mrp_page.proofs.unshown.count_others.Given as goal

abbrev pub invariant-loop-leader : goal.invariant-loop-leader
invariant-loop-leader l = l.others ≡ length l.rows - sum_by (λ leader. length (rows_named (cell_at leader.now 0) l.rows)) (take l.leader-index l.shown)
