use Rattle.mrp_survey.proofs.LineLaws.{are-lines}
use Rattle.mrp_survey.proofs.laws.lines_are_of_first_bytes.Goals as goal

pub returns : goal.returns
returns c = are-lines
