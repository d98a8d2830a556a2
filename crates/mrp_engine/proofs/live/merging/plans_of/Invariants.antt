use Rattle.std.proofs.Common.{◌≡◌, ◌++◌}
use Rattle.mrp_engine.proofs.lemmas.live.Refusals.{planned}
use Rattle.mrp_engine.proofs.live.merging.plans_of.Given as goal

abbrev pub invariant-loop-run : goal.invariant-loop-run
invariant-loop-run l = l.fn.runs.items ≡ planned l.plans.items ++ l.run-iterator.rest.items
