use Rattle.mrp_engine.proofs.lemmas.day.RunsPlanned.{HasPlanned}
use Rattle.mrp_engine.proofs.day.runs.plan_runs.Given as goal

abbrev pub invariant-loop-entry : goal.invariant-loop-entry
invariant-loop-entry g l = HasPlanned l.rows.value.tables l.entry-items l.entry-index l.plans
