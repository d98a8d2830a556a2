use Rattle.mrp_loops.proofs.Lawful.{told-once}
use Rattle.mrp_loops.proofs.laws.sets.Goals as goal

pub returns : goal.returns
returns c = told-once
