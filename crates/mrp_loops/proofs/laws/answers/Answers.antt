use Rattle.mrp_loops.proofs.Lawful.{firsts-are, ways-same}
use Rattle.mrp_loops.proofs.laws.answers.Goals as goal

pub returns-clause-firsts : goal.returns-clause-firsts
returns-clause-firsts c = firsts-are

pub returns-clause-ways : goal.returns-clause-ways
returns-clause-ways c = ways-same
