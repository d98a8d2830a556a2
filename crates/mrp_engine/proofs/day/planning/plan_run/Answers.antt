use Rattle.std.proofs.Common.{subst}
use Rattle.mrp_item.specs.Inputs.{Inputs}
use Rattle.mrp_explode.specs.Explosion.{Explodes}
use Rattle.mrp_engine.proofs.day.planning.plan_run.Goals as goal

pub returns : goal.returns
returns g c = subst (λ (s : Inputs). Explodes s c.explode_levels.result) c.in_ok-inputs.ensures c.explode_levels.ensures
