use Rattle.std.proofs.Common.{List, subst, ℕ}
use Rattle.mrp_rows.specs.declared.streams.TheConstants.{WRITE_TRIES}
use Rattle.mrp_report.proofs.Progress.{on-err}
use Rattle.mrp_report.proofs.TakenAll.{all-none, given-up-later}
use Rattle.mrp_report.specs.Taken.{HasTakenAll}
use Rattle.mrp_report.specs.Written.{HasTakenFront}
use Rattle.mrp_commands.proofs.TextsTaken.{front-more, taken-each, taken-more}
use Rattle.mrp_commands.proofs.inspect.write_texts.Goals as goal

pub loop-text-init : goal.loop-text-init
loop-text-init g c = all-none g.W.Write.contents c.args.output.now

pub loop-text-preserved : goal.loop-text-preserved
loop-text-preserved g c =
    let contents = g.W.Write.contents in
    let now = c.loop-text.output in
    let new = c.write_whole.new.errors in
    taken-more contents c.args.output.now now new c.args.texts.now c.loop-text.text-index c.text-item.result c.loop-text-test.true c.text-item.is c.loop-text.invariant
    (subst (λ (t : List ℕ). HasTakenAll contents now new t) c.as_bytes.ensures.value c.in_ok-write_whole.ensures.whole)

pub returns-in_err-write_whole-clause-front : goal.returns-in_err-write_whole-clause-front
returns-in_err-write_whole-clause-front g c =
    let contents = g.W.Write.contents in
    let now = c.loop-text.output in
    let new = c.write_whole.new.errors in
    on-err c.from_residual.result
    (front-more contents c.args.output.now now new c.args.texts.now c.loop-text.text-index c.text-item.result c.loop-text-test.true c.text-item.is c.loop-text.invariant
    (subst (λ (t : List ℕ). HasTakenFront contents now new t) c.as_bytes.ensures.value c.in_err-write_whole.ensures.front))

pub returns-in_err-write_whole-clause-gave_up : goal.returns-in_err-write_whole-clause-gave_up
returns-in_err-write_whole-clause-gave_up g c =
    on-err c.from_residual.result
    (given-up-later g.W.Write.contents c.args.output.now c.loop-text.output c.write_whole.new.errors _ WRITE_TRIES c.loop-text.invariant c.in_err-write_whole.ensures.gave_up)

pub returns-clause-whole : goal.returns-clause-whole
returns-clause-whole g c = taken-each g.W.Write.contents c.args.output.now c.loop-text.output c.args.texts.now c.loop-text.text-index c.loop-text-test.false c.loop-text.invariant
