use Rattle.mrp_advice.proofs.Pieces.{last-two}
use Rattle.mrp_advice.proofs.header.push_lacks.Goals as goal

pub returns : goal.returns
returns c = last-two c.push_str.result _ _ _ _ _ c.in_ok-push_place.ensures c.push_str.ensures.bytes
