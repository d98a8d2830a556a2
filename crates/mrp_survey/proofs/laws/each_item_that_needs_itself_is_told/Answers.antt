use Rattle.mrp_survey.proofs.LoopsTold.{tells-each-item}
use Rattle.mrp_survey.proofs.laws.each_item_that_needs_itself_is_told.Goals as goal

pub returns : goal.returns
returns c = tells-each-item
