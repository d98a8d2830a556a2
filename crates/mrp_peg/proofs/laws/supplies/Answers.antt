use Rattle.mrp_peg.proofs.OneOf.{one-supply}
use Rattle.mrp_peg.proofs.SuppliesDiffer.{supplies-differ}
use Rattle.mrp_peg.proofs.laws.supplies.Goals as goal

pub returns-clause-differ : goal.returns-clause-differ
returns-clause-differ c = supplies-differ

pub returns-clause-pegged : goal.returns-clause-pegged
returns-clause-pegged c = one-supply
