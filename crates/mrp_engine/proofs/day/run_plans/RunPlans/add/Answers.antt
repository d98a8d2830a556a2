use Rattle.std.proofs.Common.{◌∙◌, ap}
use Rattle.std.specs.Prelude.{not}
use Rattle.mrp_engine.proofs.lemmas.day.RunsPlanned.{none-first}
use Rattle.mrp_engine.proofs.day.run_plans.RunPlans.add.Goals as goal

pub returns-then-is_none : goal.returns-then-is_none
returns-then-is_none c = none-first c.args.self.now c.args.plan (c.is_none.ensures ∙ ap not c.if-is_none.true)
