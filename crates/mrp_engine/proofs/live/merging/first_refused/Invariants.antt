use Rattle.std.proofs.Common.{◌≡◌, drop}
use Rattle.mrp_engine.specs.live.Runs.{first_refused}
use Rattle.mrp_engine.proofs.live.merging.first_refused.Given as goal

abbrev pub invariant-loop-run : goal.invariant-loop-run
invariant-loop-run l = first_refused (drop l.run-index l.runs) ≡ first_refused l.runs
