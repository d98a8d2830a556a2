use Rattle.std.specs.Prelude.{take}
use Rattle.mrp_engine.proofs.lemmas.event_core.CoreRuns.{HasAnswered}
use Rattle.mrp_engine.proofs.event_core.Core.run.Given as goal

abbrev pub invariant-loop-event : goal.invariant-loop-event
invariant-loop-event g l = HasAnswered l.fn.shop.tables (take l.event-index l.events) l.answers.items l.core
