use Rattle.std.proofs.Common.{ap}
use Rattle.mrp_advice.specs.Shown.{shown}
use Rattle.mrp_advice.proofs.Pieces.{three-told}
use Rattle.mrp_advice.proofs.header.push_there.Goals as goal

pub returns : goal.returns
returns c = three-told c.push_shown.result _ _ _ _ _ _ _ _ c.in_ok-push_place.ensures c.in_ok-push_str.ensures.bytes (ap shown c.cell_in.ensures) c.push_shown.ensures
