use Rattle.std.proofs.Common.{◌≡◌, drop}
use Rattle.std.specs.List.{fold}
use Rattle.mrp_page.specs.Row.{cell_at}
use Rattle.mrp_page.specs.Rows.{higher}
use Rattle.mrp_page.proofs.rows.greatest.Given as goal

abbrev pub invariant-loop-row : goal.invariant-loop-row
invariant-loop-row l = fold (λ top r. higher top (cell_at r l.column)) l.top (drop l.row-index l.rows) ≡ fold (λ top r. higher top (cell_at r l.column)) l.least l.rows
