use Rattle.std.proofs.Common.{◌≡◌, None}
use Rattle.std.specs.Prelude.{replicate}
use Rattle.mrp_engine.proofs.day.net_change.no_outcomes.Given as goal

abbrev pub invariant-loop : goal.invariant-loop
invariant-loop g l = l.made.items ≡ replicate l.counter None
