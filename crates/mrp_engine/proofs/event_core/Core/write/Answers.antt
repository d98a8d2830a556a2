use Rattle.mrp_engine.proofs.lemmas.event_core.CoreSteps.{here-of, write-out_of_memory, written-answer}
use Rattle.mrp_engine.proofs.event_core.Core.write.Goals as goal

pub returns-clause-answer : goal.returns-clause-answer
returns-clause-answer g c =
    let i = c.self.inside in
    let r = c.index_mut.result.now in
    let here = here-of i.rows.value.tables i.book.entries i.runs.items c.args.self.now c.args.run c.in-Some.place r c.self.view_is c.self.invariant.runs c.in-Some.ensures.started.0 c.in-Some.ensures.started.1 c.index_mut.ensures.value in
    written-answer i.rows.value.tables i.book.entries i.runs.items c.args.self.now c.args.run c.in-Some.place r here c.write.result c.write.ensures.report c.write.ensures.nothing

pub returns-clause-memory : goal.returns-clause-memory
returns-clause-memory g c =
    let i = c.self.inside in
    let r = c.index_mut.result.now in
    let here = here-of i.rows.value.tables i.book.entries i.runs.items c.args.self.now c.args.run c.in-Some.place r c.self.view_is c.self.invariant.runs c.in-Some.ensures.started.0 c.in-Some.ensures.started.1 c.index_mut.ensures.value in
    write-out_of_memory i.rows.value.tables i.book.entries i.runs.items c.args.self.now c.args.run c.in-Some.place r here c.write.result c.write.ensures.memory c.write.ensures.plannable
