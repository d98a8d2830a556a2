use Rattle.std.proofs.Common.{◌≡◌, ◌≤◌, [], map, take}
use Rattle.mrp_page.specs.Rows.{last_name}
use Rattle.mrp_page.specs.Summary.{centre_count}
use Rattle.mrp_page.proofs.summary.count_centres.Given as goal

abbrev pub invariant-loop-row : goal.invariant-loop-row
invariant-loop-row l = record {
  within : l.count ≤ l.row-index;
  counted : l.count ≡ centre_count (take l.row-index (map (λ r. r.now) l.rows));
  previous : l.previous ≡ last_name [] (take l.row-index (map (λ r. r.now) l.rows));
}
