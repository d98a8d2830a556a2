use Rattle.std.proofs.Common.{◌≡◌, false, take}
use Rattle.mrp_advice.specs.Headers.{has_like}
use Rattle.mrp_advice.proofs.header.has_like.Given as goal

abbrev pub invariant-loop-column : goal.invariant-loop-column
invariant-loop-column l = has_like (take l.column l.row.first) l.name ≡ false
