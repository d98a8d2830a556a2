use Rattle.mrp_survey.proofs.CellLaws.{tells-each-record}
use Rattle.mrp_survey.proofs.laws.each_record_is_told.Goals as goal

pub returns : goal.returns
returns c = tells-each-record
