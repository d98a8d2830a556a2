use Rattle.std.proofs.Common.{sym, subst}
use Rattle.mrp_audit.specs.declared.fault.AuditFault.{AuditFault}
use Rattle.mrp_main.specs.CheckEnds.{TellsAudit}
use Rattle.mrp_main.proofs.check.tell_fault.Goals as goal

pub returns-in-Shape : goal.returns-in-Shape
returns-in-Shape g c = subst (λ (f : AuditFault). TellsAudit g.W.Write.contents c.args.output.now c.say.new.output f c.say.result) (sym c.in-Shape.is) c.say.ensures

pub returns-in-HistoryNotLegal : goal.returns-in-HistoryNotLegal
returns-in-HistoryNotLegal g c = subst (λ (f : AuditFault). TellsAudit g.W.Write.contents c.args.output.now c.say_at.new.output f c.say_at.result) (sym c.in-HistoryNotLegal.is) c.say_at.ensures

pub returns-in-DeskRows : goal.returns-in-DeskRows
returns-in-DeskRows g c = subst (λ (f : AuditFault). TellsAudit g.W.Write.contents c.args.output.now c.say_at-in-DeskRows.new.output f c.say_at-in-DeskRows.result) (sym c.in-DeskRows.is) c.say_at-in-DeskRows.ensures

pub returns-in-ReportDiffers : goal.returns-in-ReportDiffers
returns-in-ReportDiffers g c =
    subst (λ (f : AuditFault). TellsAudit g.W.Write.contents c.args.output.now c.say_at-in-ReportDiffers.new.output f c.say_at-in-ReportDiffers.result) (sym c.in-ReportDiffers.is) c.say_at-in-ReportDiffers.ensures
