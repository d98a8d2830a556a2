use Rattle.mrp_loops.proofs.Lawful.{none-told}
use Rattle.mrp_loops.proofs.laws.none.Goals as goal

pub returns : goal.returns
returns c = none-told
