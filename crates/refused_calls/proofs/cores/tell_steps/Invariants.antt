use Rattle.std.proofs.Common.{◌≡◌}
use Rattle.refused_calls.proofs.cores.tell_steps.Given as goal

abbrev pub invariant-loop-event : goal.invariant-loop-event
invariant-loop-event g l = l.core.tables ≡ l.initial.core.tables
