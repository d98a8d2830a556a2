-- The work of desks is begun, ends, and does what they had to do.
use Rattle.std.proofs.Common.{◌≡◌, ◌<◌, ◌-◌, ℕ, List, ◌∷◌, [], Result, Ok, Err, IfErr, IfOk, get_or, length, ap, arith, subst, sym}
use Rattle.std.specs.declared.thread.PromisedHandle.{PromisedHandle}
use Rattle.std.specs.declared.thread.SpawnError.{SpawnError}
use denote.Bor.{Bor}
use Rattle.std.specs.Global.{Vec}
use Rattle.std.specs.Int.{IsInRange}
use Rattle.std.specs.List.{AllZip}
use Rattle.std.specs.declared.alloc.Global.{Global}
use Rattle.mrp_bill.specs.Shop.{Shop}
use Rattle.mrp_turn.specs.Seen.{TurnId}
use Rattle.mrp_book.specs.declared.call.Call.{Call}
use Rattle.mrp_book.specs.Standing.{History}
use Rattle.mrp_engine.specs.declared.day.run.TheConstants.{MOST_WORKERS}
use Rattle.mrp_engine.specs.declared.live.ready.Ready.{Ready}
use Rattle.mrp_engine.specs.declared.live.serving.Served.{Served}
use Rattle.mrp_engine.specs.declared.live.threads.Duty.{Duty}
use Rattle.mrp_engine.specs.day.Planned.{PlansRun}
use Rattle.mrp_engine.specs.live.DeskCalls.{calls_at}
use Rattle.mrp_engine.specs.live.Runs.{RunResult, runs_at}
use Rattle.mrp_engine.specs.live.Begun.{CanServe, EndsAs, GivesWhat, HaveLists, IsDone, Serves}

-- an element of a list that has a place
pub some-of : {X : Type 0} (xs : List X) (k : ℕ) → k < length xs → X
some-of [] k within = absurd (omega (arith, within))
some-of (x ∷ xs) k within = x

-- a desk that is ready can serve
pub can-serve : (office : TurnId Shop) (lists : List (Vec Call)) (rows : Shop) (workers : ℕ) (desks : List Ready) (k : ℕ) (d : Ready) → k < length desks → rows ≡ office.about.object → IsInRange 1 MOST_WORKERS workers
    → HaveLists office lists desks → CanServe office rows workers (calls_at lists ((get_or desks k d).desk.number - 1)) (get_or desks k d)
can-serve office lists rows workers desks k d within shop hands have =
    let r = get_or desks k d in
    let ready = have.ready k d within in
    let none = ap (length {A = RunResult}) ready.none in
    let room = ready.room in
    record {
      own = have.of_office k d within;
      shop = shop;
      hands = hands;
      fits = have.fits (r.desk.number - 1);
      planned = subst (AllZip PlansRun (runs_at office r.desk.mine)) (sym ready.none) (subst (λ (h : History). AllZip PlansRun (runs_at office h) []) (sym ready.new) tt);
      room = omega (arith, none, room);
    }

module _ (office : TurnId Shop) (lists : List (Vec Call)) where
  -- work is a desk's: its office, rows, a number of workers, the calls of its list, and the desk
  abbrev pub IsWorkOf : {S D I R : Type 0} → S → ℕ → Ready → Bor (TurnId Shop) × Bor S × ℕ × Bor D × Bor I × Bor R × Global × Bor (List Call) × Ready → Type 0
  IsWorkOf rows workers d work =
      (work.0.now ≡ office) × (work.1.now ≡ rows) × (work.2 ≡ workers) × (work.7.now ≡ calls_at lists (d.desk.number - 1)) × (work.8 ≡ d)

  module _ {F : Type 0} (IsOf : Ready → F → Type 0) where
    -- the work of a desk is begun: its thread promises it, or it is left
    abbrev pub IsBegun : Ready → Result (PromisedHandle Served Duty) (SpawnError F) → Type 0
    IsBegun d (Ok handle) = (s : Served) → IsDone handle.promise s → Serves office lists d s
    IsBegun d (Err left) = IsOf d left.value

    -- it is begun as the request says
    pub begun-as : (d : Ready) (b : Result (PromisedHandle Served Duty) (SpawnError F)) (duty : Duty) (work : F) → IfOk b (λ handle. handle.promise ≡ duty) → IfErr b (λ left. left.value ≡ work)
        → ((s : Served) → IsDone duty s → Serves office lists d s) → IsOf d work → IsBegun d b
    begun-as d (Ok handle) duty work promised back does is = λ s done. does s (subst (λ (p : Duty). IsDone p s) promised done)
    begun-as d (Err left) duty work promised back does is = subst (IsOf d) (sym back) is

    -- what is left can be done
    pub left-can : (Can : F → Type 0) (d : Ready) (b : Result (PromisedHandle Served Duty) (SpawnError F)) (e : Result Served (SpawnError F)) → IsBegun d b → EndsAs b e
        → ((work : F) → IsOf d work → Can work) → IfErr e (λ left. Can left.value)
    left-can Can d (Ok handle) (Ok s) begun ends can = tt
    left-can Can d (Ok handle) (Err left) begun ends can = absurd ends
    left-can Can d (Err left) e begun ends can = subst (λ x. IfErr x (λ l. Can l.value)) (sym ends) (can left.value begun)

    -- its result serves the desk
    pub serves-all : (Gives : F → Served → Type 0) (d : Ready) (b : Result (PromisedHandle Served Duty) (SpawnError F)) (e : Result Served (SpawnError F)) (s : Served) → IsBegun d b → EndsAs b e
        → GivesWhat Gives e s → ((work : F) → IsOf d work → Gives work s → Serves office lists d s) → Serves office lists d s
    serves-all Gives d (Ok handle) (Ok done) s begun ends gives does = subst (Serves office lists d) (sym gives) (begun done ends)
    serves-all Gives d (Ok handle) (Err left) s begun ends gives does = absurd ends
    serves-all Gives d (Err left) e s begun ends gives does = does left.value begun (subst (λ x. GivesWhat Gives x s) ends gives)
