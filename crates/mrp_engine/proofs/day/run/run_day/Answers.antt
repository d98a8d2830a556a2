use Rattle.std.proofs.Common.{◌≡◌, Err, Result, ap, rules, subst, sym}
use Rattle.mrp_rows.specs.declared.streams.ReadFault.{ReadFault}
use Rattle.mrp_engine.specs.day.Fault.{reading_fault}
use Rattle.mrp_script.specs.Script.{AnswersScript}
use Rattle.mrp_engine.specs.day.Run.{MakesDay}
use Rattle.mrp_engine.specs.declared.day.fault.DayFault.{DayFault}
use Rattle.mrp_engine.proofs.lemmas.day.DayMade.{made, unread}
use Rattle.mrp_engine.proofs.day.run.run_day.Goals as goal

pub returns-in_err-bundle : goal.returns-in_err-bundle
returns-in_err-bundle g c =
    let remaining = g.R.Read.remaining in
    let contents = g.W.Write.contents in
    let reader = c.args.reader.now in
    let after = c.read_bundle.new.reader in
    let w = c.args.writer.now in
    let f = c.in_err-bundle.field-0.0 in
    let fails : c.from_residual.result ≡ Err (reading_fault f) = search rules in
    subst (λ (r : Result (Unit {0}) DayFault). MakesDay AnswersScript remaining contents reader after w w r) (sym fails)
    (unread AnswersScript remaining contents reader after w f (λ e. c.in_err-bundle.ensures.refused (ap (λ (x : ReadFault). Err x) e))
    (λ e. (c.in_err-bundle.ensures.memory (ap (λ (x : ReadFault). Err x) e), c.read_bundle.ensures.calls)) c.read_bundle.ensures.front)

pub returns : goal.returns
returns g c =
    made AnswersScript g.R.Read.remaining g.W.Write.contents c.args.reader.now c.read_bundle.new.reader c.args.writer.now c.run_bundle.new.writer c.in_ok-bundle.bundle.items c.run_bundle.result
    c.in_ok-bundle.ensures.bytes c.in_ok-bundle.ensures.end (c.in_ok-bundle.ensures.failures, c.read_bundle.ensures.calls) c.read_bundle.ensures.front c.run_bundle.ensures
