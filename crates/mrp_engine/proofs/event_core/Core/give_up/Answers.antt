use Rattle.mrp_engine.proofs.lemmas.event_core.CoreSteps.{gave_up-after, gave_up-set, here-of}
use Rattle.mrp_engine.proofs.event_core.Core.give_up.Goals as goal

pub returns-clause-after : goal.returns-clause-after
returns-clause-after c =
    let i = c.self.inside in
    let r = c.index_mut.result.now in
    let here = here-of i.rows.value.tables i.book.entries i.runs.items c.args.self.now c.args.run c.in-Some.place r c.self.view_is c.self.invariant.runs c.in-Some.ensures.started.0 c.in-Some.ensures.started.1 c.index_mut.ensures.value in
    gave_up-after i.rows.value.tables i.book.entries i.runs.items c.args.self.now c.args.run c.in-Some.place r here c.args.worker c.give_up.new.self c.in_ok-give_up.ensures.entry

pub invariant_of-self-2 : goal.invariant_of-self-2
invariant_of-self-2 c =
    let i = c.self.inside in
    let r = c.index_mut.result.now in
    let here = here-of i.rows.value.tables i.book.entries i.runs.items c.args.self.now c.args.run c.in-Some.place r c.self.view_is c.self.invariant.runs c.in-Some.ensures.started.0 c.in-Some.ensures.started.1 c.index_mut.ensures.value in
    record {
      supply = c.self.invariant.supply;
      runs = gave_up-set i.rows.value.tables i.book.entries i.runs.items c.args.self.now c.args.run c.in-Some.place r here c.args.worker c.give_up.result c.give_up.new.self (c.is_seat.ensures.0 c.if-not-is_seat.false) c.give_up.ensures.entry c.give_up.ensures.refused;
    }
