use Rattle.std.proofs.Common.{◌∙◌, sym}
use Rattle.mrp_engine.proofs.lemmas.event_core.CoreSteps.{held-nothing, here-of, take-out_of_memory, taken-after, taken-answer, taken-set}
use Rattle.mrp_engine.proofs.event_core.Core.take.Goals as goal

pub returns-then-is_some-clause-answer : goal.returns-then-is_some-clause-answer
returns-then-is_some-clause-answer c =
    let i = c.self.inside in
    let r = c.index.result.now in
    let here = here-of i.rows.value.tables i.book.entries i.runs.items c.args.self.now c.args.run c.in-Some.place r c.self.view_is c.self.invariant.runs c.in-Some.ensures.started.0 c.in-Some.ensures.started.1 c.index.ensures in
    held-nothing i.rows.value.tables i.book.entries i.runs.items c.args.self.now c.args.run c.in-Some.place r here c.args.worker c.held.result (sym c.is_some.ensures ∙ c.if-is_some.true) c.held.ensures

pub invariant_of-self : goal.invariant_of-self
invariant_of-self c =
    let i = c.self.inside in
    let r = c.index_mut.result.now in
    let here = here-of i.rows.value.tables i.book.entries i.runs.items c.args.self.now c.args.run c.in-Some.place r c.self.view_is c.self.invariant.runs c.in-Some.ensures.started.0 c.in-Some.ensures.started.1 c.index_mut.ensures.value in
    record {
      supply = c.self.invariant.supply;
      runs = taken-set i.rows.value.tables i.book.entries i.runs.items c.args.self.now c.args.run c.in-Some.place r here c.args.worker c.take.result c.take.new.self (c.is_seat.ensures.0 c.if-not-is_seat.false) c.take.ensures.entry c.take.ensures.refused;
    }

pub returns-clause-answer : goal.returns-clause-answer
returns-clause-answer c =
    let i = c.self.inside in
    let r = c.index_mut.result.now in
    let here = here-of i.rows.value.tables i.book.entries i.runs.items c.args.self.now c.args.run c.in-Some.place r c.self.view_is c.self.invariant.runs c.in-Some.ensures.started.0 c.in-Some.ensures.started.1 c.index_mut.ensures.value in
    taken-answer i.rows.value.tables i.book.entries i.runs.items c.args.self.now c.args.run c.in-Some.place r here c.args.worker c.held.result c.index.result.now c.take.result (c.is_seat.ensures.0 c.if-not-is_seat.false) (sym c.is_some.ensures ∙ c.if-is_some.false) c.held.ensures c.index.ensures c.take.ensures.answer

pub returns-clause-after : goal.returns-clause-after
returns-clause-after c =
    let i = c.self.inside in
    let r = c.index_mut.result.now in
    let here = here-of i.rows.value.tables i.book.entries i.runs.items c.args.self.now c.args.run c.in-Some.place r c.self.view_is c.self.invariant.runs c.in-Some.ensures.started.0 c.in-Some.ensures.started.1 c.index_mut.ensures.value in
    taken-after i.rows.value.tables i.book.entries i.runs.items c.args.self.now c.args.run c.in-Some.place r here c.args.worker c.take.result c.take.new.self c.take.ensures.answer c.take.ensures.entry

pub returns-clause-memory : goal.returns-clause-memory
returns-clause-memory c =
    let i = c.self.inside in
    let r = c.index_mut.result.now in
    let here = here-of i.rows.value.tables i.book.entries i.runs.items c.args.self.now c.args.run c.in-Some.place r c.self.view_is c.self.invariant.runs c.in-Some.ensures.started.0 c.in-Some.ensures.started.1 c.index_mut.ensures.value in
    take-out_of_memory i.rows.value.tables i.book.entries i.runs.items c.args.self.now c.args.run c.in-Some.place r here c.args.worker c.held.result c.index.result.now c.take.result (c.is_seat.ensures.0 c.if-not-is_seat.false) (sym c.is_some.ensures ∙ c.if-is_some.false) c.held.ensures c.index.ensures c.take.ensures.memory
