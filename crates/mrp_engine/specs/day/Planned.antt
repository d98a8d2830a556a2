-- The result of planning runs.
use Rattle.std.specs.Prelude.{ℕ, ◌≡◌, List, All, Option, Result, Ok, Err, ⊤}
use Rattle.mrp_item.specs.Inputs.{Inputs}
use Rattle.mrp_item.specs.Places.{WholePlan}
use Rattle.mrp_engine.specs.declared.day.fault.DayFault.{DayFault}
use Rattle.mrp_engine.specs.declared.day.fault.DayFault.TheVariants.{Refused, TooLarge, Read, Write, NoMemory as NoRoom}
use Rattle.mrp_tables.specs.Tables.{Tables}
use Rattle.mrp_master.specs.Supply.{supply_of}
use Rattle.mrp_book.specs.Standing.{History}
use Rattle.mrp_engine.specs.declared.day.Day.{Day}
use Rattle.mrp_engine.specs.day.Day.{Answering, IsFirstRefusal, IsPlannable, IsRefusedBy, day_text, runs_of}
use Rattle.mrp_engine.specs.day.RunPlans.{IsOfFirst}

-- the plan of a run, or the name of the first item that gets too large; or out of memory
abbrev pub PlansRun : Inputs → Result WholePlan DayFault → Type 0
PlansRun s (Ok plan) = (plan.inputs ≡ s) × IsPlannable s
PlansRun s (Err (TooLarge name)) = IsRefusedBy s name
PlansRun s (Err NoRoom) = ⊤
PlansRun s (Err (Refused f)) = ⊥
PlansRun s (Err Read) = ⊥
PlansRun s (Err Write) = ⊥

-- what planning a run comes to: it can be planned, or it is refused by the first item that gets too large; or out of
-- memory
abbrev pub JudgesRun : {X : Type 0} → Inputs → Result X DayFault → Type 0
JudgesRun s (Ok x) = IsPlannable s
JudgesRun s (Err (TooLarge name)) = IsRefusedBy s name
JudgesRun s (Err NoRoom) = ⊤
JudgesRun s (Err (Refused f)) = ⊥
JudgesRun s (Err Read) = ⊥
JudgesRun s (Err Write) = ⊥

-- a day with a history of its shop, each run of which can be planned, and the plan of the first
pub record IsPlanned (day : Day) : Type 0 where
  pub supply : day.history.supply ≡ supply_of day.rows.value.tables
  pub first : IsOfFirst (runs_of day.rows.value.tables day.history.entries) day.first
  pub plannable : All IsPlannable (runs_of day.rows.value.tables day.history.entries)

-- the text of a day
abbrev pub text_of : Day → List ℕ
text_of day = day_text day.rows.value.tables day.history.entries

-- the day of a shop of these tables with this history, or the name of the item that its first refused run is refused
-- by; or out of memory
abbrev pub PlansHistory : Tables → History → Result Day DayFault → Type 0
PlansHistory tables h (Ok day) = (day.rows.value.tables ≡ tables) × (day.history.entries ≡ h) × IsPlanned day
PlansHistory tables h (Err (TooLarge name)) = IsFirstRefusal (runs_of tables h) name
PlansHistory tables h (Err NoRoom) = ⊤
PlansHistory tables h (Err (Refused f)) = ⊥
PlansHistory tables h (Err Read) = ⊥
PlansHistory tables h (Err Write) = ⊥

-- the day of a shop of these tables, whose script is answered like this, or the name of the item that the first refused
-- run is refused by; or out of memory
abbrev pub PlansDay : Answering → Tables → Result Day DayFault → Type 0
PlansDay Answers tables (Ok day) = (day.rows.value.tables ≡ tables) × Answers tables day.history.entries × IsPlanned day
PlansDay Answers tables (Err (TooLarge name)) = (h : History) × Answers tables h × IsFirstRefusal (runs_of tables h) name
PlansDay Answers tables (Err NoRoom) = ⊤
PlansDay Answers tables (Err (Refused f)) = ⊥
PlansDay Answers tables (Err Read) = ⊥
PlansDay Answers tables (Err Write) = ⊥

-- all runs can be planned, and the plan of the first is kept, or why the first refused run is refused; or out of memory
abbrev pub PlansRuns : List Inputs → Result (Option WholePlan) DayFault → Type 0
PlansRuns runs (Ok first) = IsOfFirst runs first × All IsPlannable runs
PlansRuns runs (Err (TooLarge name)) = IsFirstRefusal runs name
PlansRuns runs (Err NoRoom) = ⊤
PlansRuns runs (Err (Refused f)) = ⊥
PlansRuns runs (Err Read) = ⊥
PlansRuns runs (Err Write) = ⊥
