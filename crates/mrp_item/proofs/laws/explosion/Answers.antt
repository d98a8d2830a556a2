use Rattle.mrp_item.proofs.DependentDemand.{line_demand-started}
use Rattle.mrp_item.proofs.laws.explosion.Goals as goal

pub returns : goal.returns
returns c = line_demand-started
