use Rattle.mrp_page.proofs.KeptRows.{history-stands, report-stands}
use Rattle.mrp_page.proofs.laws.kept_rows_stand_in_the_day.Goals as goal

pub returns-clause-history : goal.returns-clause-history
returns-clause-history c = history-stands

pub returns-clause-report : goal.returns-clause-report
returns-clause-report c = report-stands
