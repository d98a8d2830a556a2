use Rattle.std.proofs.Common.{◌-◌, ◌≡◌, ◌≤◌, count_by, take}
use Rattle.mrp_lines.specs.Lines.{is_comma}
use Rattle.mrp_lines.proofs.commas.count_commas.Given as goal

abbrev pub invariant-loop-place : goal.invariant-loop-place
invariant-loop-place l = record {
  within : l.place ≤ l.len;
  counted : l.count ≡ count_by is_comma (take l.place l.text);
}

abbrev pub decreases-loop-place : goal.decreases-loop-place
decreases-loop-place l = l.len - l.place
