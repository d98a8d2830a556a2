use Rattle.std.proofs.Common.{◌≡◌, ◌∙◌, Result, Err, ap, rules, subst, sym}
use Rattle.std.specs.List.{flat_map}
use Rattle.mrp_bill.specs.Shop.{Shop}
use Rattle.mrp_report.specs.section.HistoryText.{history_text}
use Rattle.mrp_report.specs.ReportText.{report_text}
use Rattle.mrp_report.specs.Written.{HasTakenFront}
use Rattle.mrp_report.specs.declared.fault.ReportFault.{ReportFault}
use Rattle.mrp_engine.specs.day.Day.{runs_of}
use Rattle.mrp_engine.specs.day.Fault.{writing_fault}
use Rattle.mrp_engine.specs.day.Planned.{text_of}
use Rattle.mrp_report.specs.Taken.{HasTakenAll}
use Rattle.mrp_engine.specs.day.Run.{WritesText}
use Rattle.mrp_engine.specs.declared.day.fault.DayFault.{DayFault}
use Rattle.mrp_report.proofs.TakenAll.{all-of-one}
use Rattle.mrp_engine.proofs.lemmas.day.DayWritten.{stopped, stopped-more, written-then}
use Rattle.mrp_engine.proofs.day.writing.write_day.Goals as goal

pub returns-in_err-write_history : goal.returns-in_err-write_history
returns-in_err-write_history g c =
    let contents = g.W.Write.contents in
    let old = c.args.writer.now in
    let new = c.write_history.new.writer in
    let day = c.args.day in
    let h = day.history.entries in
    let text = history_text day.rows.value.tables h in
    let f = c.in_err-write_history.field-0.0 in
    let fails : c.from_residual.result ≡ Err (writing_fault f) = search rules in
    let shop : c.deref-2.result.now ≡ day.rows.value = c.deref-2.ensures ∙ c.shop.ensures ∙ c.deref.ensures in
    let front : HasTakenFront contents old new text = subst (λ (s : Shop). HasTakenFront contents old new (history_text s.tables h)) shop c.in_err-write_history.ensures.front in
    let stop = stopped (Unit {0}) contents old new text f front (λ e. c.in_err-write_history.ensures.refused (ap (λ (x : ReportFault). Err x) e))
    (λ e. (c.in_err-write_history.ensures.memory (ap (λ (x : ReportFault). Err x) e)).0) in
    subst (λ (r : Result (Unit {0}) DayFault). WritesText contents old new (text_of day) r) (sym fails)
    (stopped-more (Unit {0}) contents old new text (flat_map report_text (runs_of day.rows.value.tables h)) (writing_fault f) stop)

pub returns : goal.returns
returns g c =
    let contents = g.W.Write.contents in
    let old = c.args.writer.now in
    let mid = c.write_history.new.writer in
    let new = c.write_reports.new.writer in
    let day = c.args.day in
    let h = day.history.entries in
    let text = history_text day.rows.value.tables h in
    let shop : c.deref-2.result.now ≡ day.rows.value = c.deref-2.ensures ∙ c.shop.ensures ∙ c.deref.ensures in
    let taken : HasTakenAll contents old mid text = subst (λ (s : Shop). HasTakenAll contents old mid (history_text s.tables h)) shop (all-of-one contents old mid _ c.in_ok-write_history.ensures.whole) in
    written-then contents old mid new text (flat_map report_text (runs_of day.rows.value.tables h)) c.write_reports.result taken c.write_reports.ensures
