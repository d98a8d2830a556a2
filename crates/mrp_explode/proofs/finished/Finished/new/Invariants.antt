use Rattle.std.proofs.Common.{◌≡◌, None}
use Rattle.std.specs.Prelude.{replicate}
use Rattle.mrp_explode.proofs.finished.Finished.new.Given as goal

abbrev pub invariant-loop : goal.invariant-loop
invariant-loop l = l.outcomes.items ≡ replicate l.counter None
