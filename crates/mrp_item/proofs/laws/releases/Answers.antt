use Rattle.mrp_item.proofs.Releases.{released-rises, released-by_due}
use Rattle.mrp_item.proofs.laws.releases.Goals as goal

pub returns-clause-within : goal.returns-clause-within
returns-clause-within c = released-by_due

pub returns-clause-rises : goal.returns-clause-rises
returns-clause-rises c = released-rises
