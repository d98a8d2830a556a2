use Rattle.std.proofs.Common.{◌≡◌, ◌+◌, ◌≤◌, drop, length, map}
use Rattle.mrp_advice.specs.Headers.{same_count}
use Rattle.mrp_advice.proofs.header.same_count.Given as goal

abbrev pub invariant-loop-place : goal.invariant-loop-place
invariant-loop-place l = record {
  within : l.place ≤ length l.row.first;
  same_before : same_count l.row.first (map (λ c. c.now) l.columns) ≡ l.place + same_count (drop l.place l.row.first) (drop l.place (map (λ c. c.now) l.columns));
}
