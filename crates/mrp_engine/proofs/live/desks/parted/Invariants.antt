use Rattle.mrp_engine.proofs.lemmas.live.Parting.{AreParted}
use Rattle.mrp_engine.proofs.live.desks.parted.Given as goal

abbrev pub invariant-loop-served : goal.invariant-loop-served
invariant-loop-served l = AreParted l.fn.all.items l.served-iterator.rest.items l.desks.items l.lists.items l.end
