use Rattle.std.proofs.Common.{◌∙◌, subst}
use Rattle.mrp_report.specs.section.HistoryText.{history_text}
use Rattle.mrp_audit.specs.Comparing.{Compared, TellsAgreement}
use Rattle.mrp_audit.proofs.Comparisons.{report-compared}
use Rattle.mrp_audit.proofs.replay.history_front.Goals as goal

pub returns : goal.returns
returns c =
    let old = c.new-writer.result.inner in
    let new = c.write_history-written.new.writer.inner in
    let tells : TellsAgreement new c.agreement.result = subst (λ (x : Compared). TellsAgreement x c.agreement.result) c.into_inner.ensures c.agreement.ensures in
    report-compared old new c.args.text.now (history_text c.args.shop.now.tables c.args.history.now.entries) c.write_history-written.result c.agreement.result c.front_by.result (c.new-writer.ensures.inner ∙ c.new.ensures)
    c.write_history-written.ensures.whole c.write_history-written.ensures.front (λ p. p.2.bytes) (λ q. (q.0, q.2)) tells c.front_by.ensures
