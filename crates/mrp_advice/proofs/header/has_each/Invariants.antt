use Rattle.std.proofs.Common.{◌≡◌, true, map, take}
use Rattle.std.specs.List.{list_all}
use Rattle.mrp_advice.specs.Headers.{has_like}
use Rattle.mrp_advice.proofs.header.has_each.Given as goal

abbrev pub invariant-loop-column : goal.invariant-loop-column
invariant-loop-column l = list_all (has_like l.row.first) (take l.column-index (map (λ c. c.now) l.columns)) ≡ true
