use Rattle.std.proofs.Common.{refl}
use Rattle.mrp_advice.proofs.Pieces.{two-told}
use Rattle.mrp_advice.proofs.header.push_differs.Goals as goal

pub returns : goal.returns
returns c = two-told c.push_in_place.result _ _ _ _ _ _ c.in_ok-push_there.ensures refl c.push_in_place.ensures
