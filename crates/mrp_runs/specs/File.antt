-- The file of a run: its own row of the history, and then its report, or why there is none (profile).
use Rattle.std.specs.Prelude.{ℕ, ◌≡◌, List, [], ◌∷◌, ◌++◌, Option, Some, None, codes, decimal}
use Rattle.mrp_tables.specs.Tables.{Tables}
use Rattle.mrp_turn.specs.declared.log.Entry.{Entry}
use Rattle.mrp_turn.specs.Log.{entry}
use Rattle.mrp_master.specs.Supply.{supply_of}
use Rattle.mrp_book.specs.declared.call.Call.{Call}
use Rattle.mrp_book.specs.declared.call.Call.TheVariants as call
use Rattle.mrp_book.specs.declared.reply.Reply.{Reply}
use Rattle.mrp_book.specs.declared.reply.Reply.TheVariants as reply
use Rattle.mrp_book.specs.History.{IsLegal, next_number}
use Rattle.mrp_book.specs.Standing.{History, standing}
use Rattle.mrp_item.specs.Inputs.{Inputs}
use Rattle.mrp_report.specs.ReportText.{report_text}
use Rattle.mrp_report.specs.section.HistoryText.{entry_text, history_head}
use Rattle.mrp_engine.specs.day.Day.{IsPlannable, IsRefusedBy}
use Rattle.mrp_engine.specs.declared.day.fault.DayFault.{DayFault}
use Rattle.mrp_engine.specs.declared.day.fault.DayFault.TheVariants as fault
use Rattle.mrp_runs.specs.declared.refusal.Refusal.{Refusal}
use Rattle.mrp_runs.specs.declared.refusal.Refusal.TheVariants as refusal
use Rattle.mrp_runs.specs.declared.run.Run.{Run}

-- the name of the file of the run with a number: `run-7.day` and so on
abbrev pub run_name : ℕ → List ℕ
run_name front = codes "run-" ++ decimal front ++ codes ".day"

-- the entry that answered a run
abbrev pub run_entry : Run → Entry Call Reply
run_entry run = entry run.desk call.Snapshot (reply.Taken run.snapshot)

-- the section `history` with the run's own row
abbrev pub run_head : Tables → Run → List ℕ
run_head tables run = history_head ++ entry_text tables (run.snapshot.front, run_entry run)

-- the line that says why there is no report
abbrev pub refusal_text : Refusal → List ℕ
refusal_text (refusal.TooLarge name) = codes "too large: " ++ name ++ 10 ∷ []
refusal_text refusal.NoMemory = codes "no memory" ++ [] ++ 10 ∷ []

-- why a run has no report, by why its day would be refused
abbrev pub refusal_of : DayFault → Refusal
refusal_of (fault.TooLarge name) = refusal.TooLarge name
refusal_of _ = refusal.NoMemory

-- what comes of a run of these inputs: its report; or the name of the first item that gets too large; or there was no
-- memory
abbrev pub Comes : Inputs → Option Refusal → List ℕ → Type 0
Comes s None text = IsPlannable s × (text ≡ report_text s)
Comes s (Some (refusal.TooLarge name)) text = IsRefusedBy s name × (text ≡ refusal_text (refusal.TooLarge name))
Comes s (Some refusal.NoMemory) text = text ≡ refusal_text refusal.NoMemory

-- a run that a legal history of the shop has, behind these entries
abbrev pub IsRunAfter : Tables → History → Run → Type 0
IsRunAfter tables before run = IsLegal (supply_of tables) (before ++ run_entry run ∷ [])

-- a run that a legal history of the shop has
abbrev pub IsRun : Tables → Run → Type 0
IsRun tables run = (before : History) × IsRunAfter tables before run

-- the inputs of a run behind these entries: the tables, and the bookings that stand then
abbrev pub inputs_after : Tables → History → Inputs
inputs_after tables before = record { tables = tables; front = next_number before; standing = standing before }

-- the file of a run behind these entries: its row, under its number, and what comes of the plan of the bookings that
-- stood at it
pub record IsFileOf (tables : Tables) (before : History) (run : Run) (outcome : Option Refusal) (text : List ℕ) : Type 0 where
  pub rest : List ℕ
  pub comes : Comes (inputs_after tables before) outcome rest
  pub is : text ≡ (history_head ++ entry_text tables (next_number before, run_entry run)) ++ rest
