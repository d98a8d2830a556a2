use Rattle.std.proofs.Common.{◌∙◌, length, sym}
use Rattle.std.proofs.lemmas.Bool.{eqb-true}
use Rattle.std.proofs.lemmas.List.{nil_from_length}
use Rattle.mrp_calls.proofs.Lines.{so-far-all, so-far-next}
use Rattle.mrp_calls.proofs.open_desk.OpenDesk.answer.Goals as goal

pub loop-rest-preserved : goal.loop-rest-preserved
loop-rest-preserved c = record {
  so_far = so-far-next c.args.batch.now c.args.self.now c.loop-rest.rest.now c.first_line.result.0.now c.first_line.result.1.now c.loop-rest.self c.answer_line.new.self
      c.loop-rest.answers.items c.loop-rest.records.items c.answer_line.new.answers.items c.answer_line.new.records.items
      c.loop-rest.invariant.so_far c.first_line.ensures.lines c.answer_line.ensures.answered;
  room = c.answer_line.ensures.left;
}

pub returns-clause-answered : goal.returns-clause-answered
returns-clause-answered c =
    so-far-all c.args.batch.now c.args.self.now c.loop-rest.rest.now c.loop-rest.self c.loop-rest.answers.items c.loop-rest.records.items c.loop-rest.invariant.so_far
    (nil_from_length c.loop-rest.rest.now (eqb-true (length c.loop-rest.rest.now) 0 (sym c.is_empty.ensures ∙ c.loop-rest-test.false)))
