-- The right days of a bundle: each desk's calls are in the order of its records, and those of different desks in any
-- order (profile).
use Rattle.std.specs.Prelude.{ℕ, ◌≡◌, ◌==◌, ◌++◌, List, [], Result, Ok, Err, filter, flat_map}
use Rattle.mrp_tables.specs.Tables.{Tables}
use Rattle.mrp_master.specs.Supply.{supply_of}
use Rattle.mrp_book.specs.Standing.{History}
use Rattle.mrp_book.specs.History.{IsLegal, asked}
use Rattle.mrp_item.specs.Inputs.{Inputs}
use Rattle.mrp_item.specs.Plan.{ItemPlan, plan_of}
use Rattle.mrp_report.specs.section.HistoryText.{history_text}
use Rattle.mrp_report.specs.ReportText.{report_text}
use Rattle.mrp_script.specs.Script.{Script, script_of, with_run}
use Rattle.mrp_engine.specs.day.Day.{runs_of}
use Rattle.mrp_script.specs.Opened.{IsAccepted}

-- the calls of one desk, in order
abbrev pub asked_by : ℕ → Script → Script
asked_by desk script = filter (λ r. r.0 == desk) script

-- a history in which each desk's entries are its script records in order; the run that is added to a script without
-- one is the last record of desk 1
abbrev pub FollowsDesks : Tables → History → Type 0
FollowsDesks tables h = (desk : ℕ) → asked_by desk (asked h) ≡ asked_by desk (with_run (script_of tables))

-- a legal history that answers the script's records desk by desk
pub record AnswersDesks (tables : Tables) (h : History) : Type 0 where
  pub legal : IsLegal (supply_of tables) h
  pub by_desk : FollowsDesks tables h

-- the report of a run with this plan; empty if an item gets too large
abbrev pub text_of_plan : Inputs → Result (List ItemPlan) ℕ → List ℕ
text_of_plan s (Ok plans) = report_text s
text_of_plan s (Err item) = []

abbrev pub run_report : Inputs → List ℕ
run_report s = text_of_plan s (plan_of s)

-- the history, then the report of each run that has one, in order
abbrev pub right_text : Tables → History → List ℕ
right_text tables h = history_text tables h ++ flat_map run_report (runs_of tables h)

-- a bundle and the text of a day in which its script is answered, desk by desk
abbrev pub IsRightDay : List ℕ → List ℕ → Type 0
IsRightDay bundle text =
    (tables : Tables) × IsAccepted bundle tables × (h : History) × AnswersDesks tables h × (text ≡ right_text tables h)
