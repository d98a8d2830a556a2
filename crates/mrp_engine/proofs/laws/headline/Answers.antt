use Rattle.mrp_engine.proofs.lemmas.event_core.Headlines.{headline}
use Rattle.mrp_engine.proofs.laws.headline.Goals as goal

pub returns : goal.returns
returns c = λ shop steps kept right. headline shop kept steps right
