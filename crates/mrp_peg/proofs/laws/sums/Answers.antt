use Rattle.mrp_peg.proofs.ItemSums.{to-requirements, to-supplies}
use Rattle.mrp_peg.proofs.laws.sums.Goals as goal

pub returns-clause-requirements : goal.returns-clause-requirements
returns-clause-requirements c = to-requirements

pub returns-clause-supplies : goal.returns-clause-supplies
returns-clause-supplies c = to-supplies
