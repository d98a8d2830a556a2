use Rattle.std.proofs.Common.{◌≡◌, false, map, take}
use Rattle.std.specs.List.{list_any}
use Rattle.mrp_advice.specs.Headers.{has_like}
use Rattle.mrp_advice.proofs.header.has_some.Given as goal

abbrev pub invariant-loop-column : goal.invariant-loop-column
invariant-loop-column l = list_any (has_like l.row.first) (take l.column-index (map (λ c. c.now) l.columns)) ≡ false
