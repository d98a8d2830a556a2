use Rattle.mrp_audit.proofs.RunReports.{HasCompared}
use Rattle.mrp_audit.proofs.reports.check_reports.Given as goal

abbrev pub invariant-loop-entry : goal.invariant-loop-entry
invariant-loop-entry g l = HasCompared l.rows.value.tables l.entry-items l.entry-index l.text l.left l.run
