use Rattle.std.proofs.Common.{◌≡◌, ◌≤◌, [], take}
use Rattle.mrp_page.specs.Rows.{last_name}
use Rattle.mrp_page.specs.Summary.{centre_count}
use Rattle.mrp_page.proofs.summary.count_all.Given as goal

abbrev pub invariant-loop-row : goal.invariant-loop-row
invariant-loop-row l = record {
  within : l.count ≤ l.row-index;
  counted : l.count ≡ centre_count (take l.row-index l.rows);
  previous : l.previous ≡ last_name [] (take l.row-index l.rows);
}
