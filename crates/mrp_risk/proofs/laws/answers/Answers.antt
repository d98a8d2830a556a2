use Rattle.mrp_risk.proofs.Answered.{one-answer}
use Rattle.mrp_risk.proofs.laws.answers.Goals as goal

pub returns : goal.returns
returns c = one-answer
