use Rattle.mrp_survey.specs.Lines.{at_start}
use Rattle.mrp_survey.proofs.FileLines.{behind-is}
use Rattle.mrp_survey.proofs.laws.files_begin_behind_line_ends.Goals as goal

pub returns : goal.returns
returns c = behind-is (at_start 1)
