use Rattle.mrp_peg.proofs.NeedsDiffer.{needs-differ}
use Rattle.mrp_peg.proofs.OneOf.{one-requirement}
use Rattle.mrp_peg.proofs.laws.needs.Goals as goal

pub returns-clause-differ : goal.returns-clause-differ
returns-clause-differ c = needs-differ

pub returns-clause-pegged : goal.returns-clause-pegged
returns-clause-pegged c = one-requirement
