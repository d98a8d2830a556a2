use Rattle.std.proofs.Common.{take}
use Rattle.mrp_report.specs.Taken.{HasTakenAll}
use Rattle.mrp_engine.specs.day.RunPlans.{IsOfShop}
use Rattle.mrp_engine.proofs.lemmas.day.DayReports.{IsReady, reports}
use Rattle.mrp_engine.proofs.day.writing.write_reports.Given as goal

pub record Keeps (Taken Last Ready : Type 0) : Type 0 where
  pub taken : Taken
  pub last : Last
  pub ready : Ready

abbrev pub invariant-loop-entry : goal.invariant-loop-entry
invariant-loop-entry g l =
    Keeps (HasTakenAll g.W.Write.contents l.initial.writer l.writer (reports l.rows.value.tables (take l.entry-index l.entry-items)))
    (IsOfShop l.rows.value.tables l.last)
    (IsReady l.rows.value.tables l.entry-items l.initial.made l.entry-index l.made)
