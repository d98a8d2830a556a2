use Rattle.mrp_peg.proofs.Sums.{required}
use Rattle.mrp_peg.proofs.UnitCounts.{matched_units}
use Rattle.mrp_peg.proofs.laws.pieces.Goals as goal

pub returns-clause-matches : goal.returns-clause-matches
returns-clause-matches c = matched_units

pub returns-clause-requirements : goal.returns-clause-requirements
returns-clause-requirements c = required
