-- The runs that the calls of desks start, and what comes of them (profile).
use Rattle.std.specs.Prelude.{ℕ, ◌≡◌, ◌<◌, ◌≤◌, ◌+◌, ◌-◌, Bool, true, false, if◌then◌else◌, List, [], ◌∷◌, Vec, All, Option, Some, None, Result, Ok, Err, count_by, length, map, slice_get, slice_index_or, ⊤}
use Rattle.std.specs.declared.collections.VecDeque.{VecDeque}
use Rattle.std.specs.List.{AllZip, list_any}
use Rattle.std.specs.declared.alloc.Global.{Global}
use Rattle.mrp_bill.specs.Lists.{listed}
use Rattle.mrp_bill.specs.Shop.{Shop}
use Rattle.mrp_turn.specs.Log.{entries_by}
use Rattle.mrp_turn.specs.Seen.{TurnId}
use Rattle.mrp_tables.specs.Tables.{Tables}
use Rattle.mrp_book.specs.declared.call.Call.{Call}
use Rattle.mrp_book.specs.Standing.{History}
use Rattle.mrp_desk.specs.Offices.{Desk}
use Rattle.mrp_item.specs.Inputs.{Inputs}
use Rattle.mrp_item.specs.Places.{WholePlan}
use Rattle.mrp_engine.specs.declared.day.fault.DayFault.{DayFault}
use Rattle.mrp_engine.specs.declared.day.fault.DayFault.TheVariants.{Refused, TooLarge, Read, Write, NoMemory}
use Rattle.mrp_engine.specs.day.Day.{IsFirstRefusal, IsPlannable, runs_of}
use Rattle.mrp_engine.specs.day.Planned.{PlansRun}
use Rattle.mrp_script.specs.Script.{is_run}

-- what came of a run: its plan, or why its day is refused
abbrev pub RunResult : Type 0
RunResult = Result WholePlan DayFault

-- the inputs of the runs that entries at an office start
abbrev pub runs_at : TurnId Shop → History → List Inputs
runs_at office h = runs_of office.about.object.tables h

-- the plan in what came of a run, if there is one
abbrev pub plan_in_run : Option RunResult → Option WholePlan
plan_in_run (Some (Ok plan)) = Some plan
plan_in_run (Some (Err fault)) = None
plan_in_run None = None

-- the plan of the last run, if that has one
abbrev pub last_plan : List RunResult → Option WholePlan
last_plan runs = plan_in_run (slice_get runs (length runs - 1))

-- the inputs of plans
abbrev pub inputs_of_plans : List WholePlan → List Inputs
inputs_of_plans plans = map (λ p. p.inputs) plans

-- the plans of all runs, in order, or why the first refused run is refused; or out of memory
abbrev pub PlansAll : List Inputs → Result (Vec WholePlan Global) DayFault → Type 0
PlansAll runs (Ok plans) = (inputs_of_plans plans.items ≡ runs) × All IsPlannable runs
PlansAll runs (Err (TooLarge name)) = IsFirstRefusal runs name
PlansAll runs (Err NoMemory) = ⊤
PlansAll runs (Err (Refused f)) = ⊥
PlansAll runs (Err Read) = ⊥
PlansAll runs (Err Write) = ⊥

-- how many runs calls start
abbrev pub runs_in : List Call → ℕ
runs_in calls = count_by is_run calls

-- what came of the runs of each of these desks, in a list for each
pub record HaveRuns (office : TurnId Shop) (desks : List Desk) (runs : List (Vec RunResult Global)) : Type 0 where
  pub count : length runs ≡ length desks
  pub each : (k : ℕ) (d : Desk) → k < length desks → AllZip PlansRun (runs_at office (slice_index_or desks k d).mine) (listed runs k)

-- what came of the runs of a history, in a list for each desk from 1 on; it has no entries of other desks
pub record AreRunsOf (t : Tables) (h : History) (runs : List (Vec RunResult Global)) : Type 0 where
  pub each : (place : ℕ) → place < length runs → AllZip PlansRun (runs_of t (entries_by (place + 1) h)) (listed runs place)
  pub callers : All (λ e. (1 ≤ e.who) × (e.who ≤ length runs)) h

-- the queue at a place, and none past the last
abbrev pub queued : List (VecDeque RunResult Global) → ℕ → List RunResult
queued queues place = slice_index_or (map (λ q. q.items) queues) place []

abbrev pub lacks_memory : RunResult → Bool
lacks_memory (Err NoMemory) = true
lacks_memory r = false

-- why the first refused run is refused
abbrev pub first_refused : List RunResult → Option DayFault
first_refused [] = None
first_refused (Ok plan ∷ runs) = first_refused runs
first_refused (Err fault ∷ runs) = Some fault

-- why a day with these runs is refused: out of memory if a run was refused it, otherwise as the first refused one is
abbrev pub refusal_among : List RunResult → Option DayFault
refusal_among runs = if list_any lacks_memory runs then Some NoMemory else first_refused runs
