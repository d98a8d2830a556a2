use Rattle.mrp_cal.proofs.ReleaseLaws.{released-even}
use Rattle.mrp_cal.proofs.laws.even_weeks.Goals as goal

pub returns : goal.returns
returns c = released-even
