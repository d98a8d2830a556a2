use Rattle.mrp_runs.proofs.Histories.{run-behind}
use Rattle.mrp_runs.proofs.Reports.{one-item, one-report, report-of-day, report-or-item}
use Rattle.mrp_runs.proofs.laws.run_files.Goals as goal

pub returns-clause-runs : goal.returns-clause-runs
returns-clause-runs c = run-behind

pub returns-clause-reports : goal.returns-clause-reports
returns-clause-reports c = report-of-day

pub returns-clause-one : goal.returns-clause-one
returns-clause-one c = one-report

pub returns-clause-report_or_item : goal.returns-clause-report_or_item
returns-clause-report_or_item c = report-or-item

pub returns-clause-item : goal.returns-clause-item
returns-clause-item c = one-item
