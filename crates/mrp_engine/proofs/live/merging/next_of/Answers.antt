use Rattle.std.proofs.Common.{◌-◌, arith}
use Rattle.mrp_engine.proofs.lemmas.live.Merging.{pop-next, queued-set_other}
use Rattle.mrp_engine.proofs.live.merging.next_of.Goals as goal

pub returns-clause-next : goal.returns-clause-next
returns-clause-next c =
    let (some, most) = c.requires.desk in
    pop-next c.args.queues.now.items (c.args.desk - 1) c.index_mut.result.now c.pop_front.new.self c.in-Some.run' (omega (arith, some, most)) c.index_mut.ensures.value c.in-Some.ensures.items

pub returns-clause-others : goal.returns-clause-others
returns-clause-others c place apart = queued-set_other c.args.queues.now.items (c.args.desk - 1) place c.pop_front.new.self apart
