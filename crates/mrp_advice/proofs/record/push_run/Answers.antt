use Rattle.std.proofs.Common.{refl}
use Rattle.mrp_advice.proofs.Pieces.{two-told}
use Rattle.mrp_advice.proofs.record.push_run.Goals as goal

pub returns : goal.returns
returns c = two-told c.push_number.result _ _ _ _ _ _ c.in_ok-push_str.ensures.bytes refl c.push_number.ensures
