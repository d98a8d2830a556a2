use Rattle.mrp_engine.proofs.lemmas.live.DeskLists.{new-desks}
use Rattle.mrp_engine.proofs.live.desks.open.Goals as goal

pub returns-in-Ok-clause-desks : goal.returns-in-Ok-clause-desks
returns-in-Ok-clause-desks c = (new-desks c.in-Ok.opened.0 c.in-Ok.opened.1.items c.count_of-count.result c.in-Ok.ensures.asked c.in-Ok.ensures.count c.in-Ok.ensures.desks).0

pub returns-in-Ok-clause-new : goal.returns-in-Ok-clause-new
returns-in-Ok-clause-new c = (new-desks c.in-Ok.opened.0 c.in-Ok.opened.1.items c.count_of-count.result c.in-Ok.ensures.asked c.in-Ok.ensures.count c.in-Ok.ensures.desks).1
