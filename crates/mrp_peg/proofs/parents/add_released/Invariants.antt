use Rattle.std.proofs.Common.{◌≡◌, ◌++◌, ◌-◌, ◌≤◌, length, map, take}
use Rattle.std.specs.Prelude.{◌==◌, filter}
use Rattle.std.specs.List.{enumerate_from}
use Rattle.mrp_peg.specs.Rows.{order_requirement}
use Rattle.mrp_peg.proofs.parents.add_released.Given as goal

abbrev pub invariant-loop-place : goal.invariant-loop-place
invariant-loop-place l = record {
  needs : l.needs.items ≡ l.initial.needs.items ++ filter (λ requirement. requirement.need.week == l.week) (map (order_requirement l.item l.by.line l.by.per) (enumerate_from 1 (take l.place l.orders)));
  begun : l.initial.place ≤ l.place;
  within : l.place ≤ length l.orders;
}

abbrev pub decreases-loop-place : goal.decreases-loop-place
decreases-loop-place l = length l.orders - l.place
