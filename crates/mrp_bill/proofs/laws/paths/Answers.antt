use Rattle.mrp_bill.proofs.Accepted.{chain-path, path-needs}
use Rattle.mrp_bill.proofs.laws.paths.Goals as goal

pub returns-clause-chains : goal.returns-clause-chains
returns-clause-chains c = chain-path

pub returns-clause-loops : goal.returns-clause-loops
returns-clause-loops c = path-needs
