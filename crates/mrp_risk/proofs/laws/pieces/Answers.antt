use Rattle.mrp_risk.proofs.Answered.{at-most}
use Rattle.mrp_risk.proofs.laws.pieces.Goals as goal

pub returns : goal.returns
returns c = at-most
