use Rattle.mrp_work.proofs.Sums.{parts-whole, total-exact}
use Rattle.mrp_work.proofs.laws.parts_make_the_load.Goals as goal

pub returns-clause-whole : goal.returns-clause-whole
returns-clause-whole c = parts-whole

pub returns-clause-exact : goal.returns-clause-exact
returns-clause-exact c = total-exact
