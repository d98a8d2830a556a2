-- The report in a run's file, and the reports of a history's day (profile).
use Rattle.std.specs.Prelude.{ℕ, ◌≡◌, List, ◌∷◌, ◌++◌, flat_map}
use Rattle.mrp_tables.specs.Tables.{Tables}
use Rattle.mrp_book.specs.History.{next_number}
use Rattle.mrp_book.specs.Standing.{History}
use Rattle.mrp_report.specs.ReportText.{report_text}
use Rattle.mrp_report.specs.section.HistoryText.{entry_text, history_head}
use Rattle.mrp_engine.specs.day.Day.{runs_of}
use Rattle.mrp_runs.specs.File.{run_entry}
use Rattle.mrp_runs.specs.declared.run.Run.{Run}

-- the reports of a history's runs, in order, as its day has them
abbrev pub reports_of : Tables → History → List ℕ
reports_of tables h = flat_map report_text (runs_of tables h)

-- behind the run's row a file has the report that the day of a history has of that run
pub record HasReportOfDay (tables : Tables) (before : History) (run : Run) (after : History) (text : List ℕ) : Type 0 where
  pub report : List ℕ
  pub file : text ≡ (history_head ++ entry_text tables (next_number before, run_entry run)) ++ report
  pub day : reports_of tables (before ++ run_entry run ∷ after) ≡ reports_of tables before ++ (report ++ reports_of tables after)
