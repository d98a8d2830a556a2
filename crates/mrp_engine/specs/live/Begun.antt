-- The work of desks: what it requires, how it is begun, and how it ends (profile).
use Rattle.std.specs.Prelude.{◌≡◌, ◌<◌, ◌≤◌, ◌-◌, ◌+◌, ℕ, [], All, List, Result, Ok, Err, length, slice_index_or, vec_capacity}
use Rattle.std.specs.Int.{IsInRange}
use Rattle.std.specs.List.{AllZip}
use Rattle.std.specs.declared.thread.PromisedHandle.{PromisedHandle}
use Rattle.std.specs.declared.thread.SpawnError.{SpawnError}
use Rattle.std.specs.Global.{Vec}
use Rattle.mrp_bill.specs.Shop.{Shop}
use Rattle.mrp_turn.specs.Seen.{TurnId}
use Rattle.mrp_book.specs.declared.call.Call.{Call}
use Rattle.mrp_book.specs.History.{Fits}
use Rattle.mrp_desk.specs.Offices.{Desk, supply_at}
use Rattle.mrp_engine.specs.declared.day.run.TheConstants.{MOST_WORKERS}
use Rattle.mrp_engine.specs.declared.live.ready.Ready.{Ready}
use Rattle.mrp_engine.specs.declared.live.serving.Served.{Served}
use Rattle.mrp_engine.specs.declared.live.threads.Duty.{Duty}
use Rattle.mrp_engine.specs.day.Planned.{PlansRun}
use Rattle.mrp_engine.specs.live.DeskCalls.{calls_at}
use Rattle.mrp_engine.specs.live.Desks.{HasServed}
use Rattle.mrp_engine.specs.live.Runs.{runs_at, runs_in}

-- a desk that has made no call, with room for what comes of the runs that these calls start
pub record IsReady (calls : List Call) (r : Ready) : Type 0 where
  pub new : r.desk.mine ≡ []
  pub none : r.runs.items ≡ []
  pub room : runs_in calls ≤ vec_capacity r.runs

-- a desk of an office can make these calls, and plan the runs that they start, over these rows by so many workers
pub record CanServe (office : TurnId Shop) (rows : Shop) (workers : ℕ) (calls : List Call) (r : Ready) : Type 0 where
  pub own : r.desk.turn ≡ office
  pub shop : rows ≡ office.about.object
  pub hands : IsInRange 1 MOST_WORKERS workers
  pub fits : All (Fits (supply_at office)) calls
  pub planned : AllZip PlansRun (runs_at office r.desk.mine) r.runs.items
  pub room : length r.runs.items + runs_in calls ≤ vec_capacity r.runs

-- a desk of an office has made these calls in order, or was refused one of them, and of each run that its entries start
-- there is what came of it
pub record HasDone (office : TurnId Shop) (calls : List Call) (old : Desk) (s : Served) : Type 0 where
  pub made : HasServed (supply_at office) calls old {U = Unit {0}} s.end s.desk
  pub planned : AllZip PlansRun (runs_at office s.desk.mine) s.runs.items

-- desks of an office can make the calls of lists: each has a list and is ready for its calls, and all calls are of the
-- office's shop
pub record HaveLists (office : TurnId Shop) (lists : List (Vec Call)) (desks : List Ready) : Type 0 where
  pub of_office : All (λ d. d.desk.turn ≡ office) desks
  pub listed : All (λ d. (1 ≤ d.desk.number) × (d.desk.number ≤ length lists)) desks
  pub fits : (place : ℕ) → All (Fits (supply_at office)) (calls_at lists place)
  pub ready : All (λ d. IsReady (calls_at lists (d.desk.number - 1)) d) desks

-- a desk has done so with the calls of its list
abbrev pub Serves : TurnId Shop → List (Vec Call) → Ready → Served → Type 0
Serves office lists d s = HasDone office (calls_at lists (d.desk.number - 1)) d.desk s

-- each of these desks has done so
pub record EachServes (office : TurnId Shop) (lists : List (Vec Call)) (desks : List Ready) (all : List Served) : Type 0 where
  pub count : length all ≡ length desks
  pub each : (k : ℕ) (d : Ready) (s : Served) → k < length desks → Serves office lists (slice_index_or desks k d) (slice_index_or all k s)

-- a desk has done its duty
abbrev pub IsDone : Duty → Served → Type 0
IsDone duty s = HasDone duty.office.now duty.calls.now duty.desk.value s

-- how work that was begun stands once all threads have finished: a thread has done its desk's duty, and work that was
-- left over is left over
abbrev pub EndsAs : {F : Type 0} → Result (PromisedHandle Served Duty) (SpawnError F) → Result Served (SpawnError F) → Type 0
EndsAs (Ok handle) (Ok s) = IsDone handle.promise s
EndsAs (Ok handle) (Err left) = ⊥
EndsAs (Err left) end = end ≡ Err left

-- the result of the work: what was done already, or what the work that was left over gives
abbrev pub GivesWhat : {F : Type 0} → (F → Served → Type 0) → Result Served (SpawnError F) → Served → Type 0
GivesWhat post (Ok done) s = s ≡ done
GivesWhat post (Err left) s = post left.value s
