use Rattle.std.proofs.Common.{subst}
use Rattle.mrp_item.specs.Inputs.{Inputs}
use Rattle.mrp_explode.specs.Explosion.{Explodes}
use Rattle.mrp_engine.proofs.day.planning.plan_run_by.Goals as goal

pub returns : goal.returns
returns g c = subst (λ (s : Inputs). Explodes s c.explode.result) c.in_ok-planned_from.ensures c.explode.ensures
