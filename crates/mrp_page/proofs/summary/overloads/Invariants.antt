use Rattle.std.proofs.Common.{◌≡◌, map, take}
use Rattle.mrp_page.specs.Summary.{overloads}
use Rattle.mrp_page.proofs.summary.overloads.Given as goal

abbrev pub invariant-loop-load : goal.invariant-loop-load
invariant-loop-load l = map (λ r. r.now) l.rows.items ≡ overloads (take l.load-index l.loads)
