use Rattle.mrp_notes.proofs.MessageLaws.{moved_once}
use Rattle.mrp_notes.proofs.laws.once.Goals as goal

pub returns : goal.returns
returns c = moved_once
