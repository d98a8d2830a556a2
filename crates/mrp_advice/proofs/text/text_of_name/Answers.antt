use Rattle.mrp_advice.proofs.NameTexts.{name-text}
use Rattle.mrp_advice.proofs.text.text_of_name.Goals as goal

pub unreachable-requires : goal.unreachable-requires
unreachable-requires c = c.in-Err.ensures.cases.0 (name-text c.as_bytes.result.now c.as_bytes.ensures.name)
