use Rattle.mrp_engine.proofs.lemmas.event_core.CoreSteps.{finish-out_of_memory, finished-after, finished-answer, finished-set, here-of}
use Rattle.mrp_engine.proofs.event_core.Core.finish.Goals as goal

pub finish-requires-clause-keeps : goal.finish-requires-clause-keeps
finish-requires-clause-keeps c =
    let i = c.self.inside in
    let r = c.index_mut.result.now in
    let here = here-of i.rows.value.tables i.book.entries i.runs.items c.args.self.now c.args.run c.in-Some.place r c.self.view_is c.self.invariant.runs c.in-Some.ensures.started.0 c.in-Some.ensures.started.1 c.index_mut.ensures.value in
    here.follows.board

pub returns-clause-answer : goal.returns-clause-answer
returns-clause-answer c =
    let i = c.self.inside in
    let r = c.index_mut.result.now in
    let here = here-of i.rows.value.tables i.book.entries i.runs.items c.args.self.now c.args.run c.in-Some.place r c.self.view_is c.self.invariant.runs c.in-Some.ensures.started.0 c.in-Some.ensures.started.1 c.index_mut.ensures.value in
    finished-answer i.rows.value.tables i.book.entries i.runs.items c.args.self.now c.args.run c.in-Some.place r here c.args.worker c.finish.result (c.is_seat.ensures.0 c.if-not-is_seat.false) c.finish.ensures.held c.finish.ensures.not_held

pub returns-clause-after : goal.returns-clause-after
returns-clause-after c =
    let i = c.self.inside in
    let r = c.index_mut.result.now in
    let here = here-of i.rows.value.tables i.book.entries i.runs.items c.args.self.now c.args.run c.in-Some.place r c.self.view_is c.self.invariant.runs c.in-Some.ensures.started.0 c.in-Some.ensures.started.1 c.index_mut.ensures.value in
    finished-after i.rows.value.tables i.book.entries i.runs.items c.args.self.now c.args.run c.in-Some.place r here c.args.worker c.finish.result c.finish.new.self (c.is_seat.ensures.0 c.if-not-is_seat.false) c.finish.ensures.held c.finish.ensures.not_held c.finish.ensures.entry

pub returns-clause-memory : goal.returns-clause-memory
returns-clause-memory c =
    let i = c.self.inside in
    let r = c.index_mut.result.now in
    let here = here-of i.rows.value.tables i.book.entries i.runs.items c.args.self.now c.args.run c.in-Some.place r c.self.view_is c.self.invariant.runs c.in-Some.ensures.started.0 c.in-Some.ensures.started.1 c.index_mut.ensures.value in
    finish-out_of_memory i.rows.value.tables i.book.entries i.runs.items c.args.self.now c.args.run c.in-Some.place r here c.args.worker c.finish.result (c.is_seat.ensures.0 c.if-not-is_seat.false) c.finish.ensures.memory

pub invariant_of-self : goal.invariant_of-self
invariant_of-self c =
    let i = c.self.inside in
    let r = c.index_mut.result.now in
    let here = here-of i.rows.value.tables i.book.entries i.runs.items c.args.self.now c.args.run c.in-Some.place r c.self.view_is c.self.invariant.runs c.in-Some.ensures.started.0 c.in-Some.ensures.started.1 c.index_mut.ensures.value in
    record {
      supply = c.self.invariant.supply;
      runs = finished-set i.rows.value.tables i.book.entries i.runs.items c.args.self.now c.args.run c.in-Some.place r here c.args.worker c.finish.result c.finish.new.self (c.is_seat.ensures.0 c.if-not-is_seat.false) c.finish.ensures.entry c.finish.ensures.refused;
    }
