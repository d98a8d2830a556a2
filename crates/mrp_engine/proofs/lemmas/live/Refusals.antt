-- Why a day is refused, by what came of its runs.
use Rattle.std.proofs.Common.{◌≡◌, ◌∙◌, ◌++◌, Bool, true, false, cond, List, [], ◌∷◌, Some, None, Ok, Err, map, ap, refl, subst, sym}
use Rattle.std.specs.Prelude.{All, slice_get}
use Rattle.std.specs.List.{AllZip, list_any}
use Rattle.std.proofs.lemmas.List.Elements.{All-cons, All-nil}
use Rattle.mrp_board.proofs.Tests.{no}
use Rattle.mrp_item.specs.Inputs.{Inputs}
use Rattle.mrp_item.specs.Places.{WholePlan}
use Rattle.mrp_engine.specs.declared.day.fault.DayFault.{DayFault}
use Rattle.mrp_engine.specs.declared.day.fault.DayFault.TheVariants.{Refused, TooLarge, Read, Write, NoMemory}
use Rattle.mrp_engine.specs.day.Day.{IsPlannable}
use Rattle.mrp_engine.specs.day.Planned.{PlansRun, PlansRuns}
use Rattle.mrp_engine.specs.day.RunPlans.{IsOfFirst}
use Rattle.mrp_engine.specs.live.Runs.{PlansAll, RunResult, first_refused, inputs_of_plans, lacks_memory, refusal_among}

-- the first run is refused
refused-here : (s : Inputs) (runs : List Inputs) (fault : DayFault) → PlansRun s (Err fault) → PlansAll (s ∷ runs) (Err fault)
refused-here s runs (TooLarge name) is = ([], s, runs, refl, All-nil IsPlannable, is)
refused-here s runs NoMemory is = tt
refused-here s runs (Refused f) is = is
refused-here s runs Read is = is
refused-here s runs Write is = is

-- a later run is refused
refused-later : (s : Inputs) (runs : List Inputs) (fault : DayFault) → IsPlannable s → PlansAll runs (Err fault) → PlansAll (s ∷ runs) (Err fault)
refused-later s runs (TooLarge name) plannable (before, x, after, are, all, is) = (s ∷ before, x, after, ap (λ (r : List Inputs). s ∷ r) are, All-cons IsPlannable s before plannable all, is)
refused-later s runs NoMemory plannable is = tt
refused-later s runs (Refused f) plannable is = is
refused-later s runs Read plannable is = is
refused-later s runs Write plannable is = is

first-refusal : (runs : List Inputs) (results : List RunResult) (fault : DayFault) → AllZip PlansRun runs results → first_refused results ≡ Some fault → PlansAll runs (Err fault)
first-refusal [] [] fault all is = absurd (cc)
first-refusal [] (r ∷ results) fault all is = absurd all
first-refusal (s ∷ runs) [] fault all is = absurd all
first-refusal (s ∷ runs) (Ok plan ∷ results) fault all is = refused-later s runs fault all.0.1 (first-refusal runs results fault all.1 is)
first-refusal (s ∷ runs) (Err f ∷ results) fault all is =
    let same : f ≡ fault = cc in
    refused-here s runs fault (subst (λ (x : DayFault). PlansRun s (Err x)) same all.0)

-- why a day with these runs is refused
pub refusal : (runs : List Inputs) (results : List RunResult) (fault : DayFault) → AllZip PlansRun runs results → refusal_among results ≡ Some fault → PlansAll runs (Err fault)
refusal runs results fault all is = by (list_any lacks_memory results) is
  where
    by : (b : Bool) → cond b (Some NoMemory) (first_refused results) ≡ Some fault → PlansAll runs (Err fault)
    by true e =
        let same : NoMemory ≡ fault = cc in
        subst (λ (x : DayFault). PlansAll runs (Err x)) same tt
    by false e = first-refusal runs results fault all e

-- a day without a reason is refused by no run
pub none-refused : (results : List RunResult) → refusal_among results ≡ None → first_refused results ≡ None
none-refused results is = by (list_any lacks_memory results) is
  where
    by : (b : Bool) → cond b (Some NoMemory) (first_refused results) ≡ None → first_refused results ≡ None
    by true e = absurd (cc)
    by false e = e

-- out of memory if a run was refused it
pub memory-first : (results : List RunResult) (fault : DayFault) → refusal_among results ≡ Some fault → list_any lacks_memory results ≡ true → fault ≡ NoMemory
memory-first results fault is lacks = by (list_any lacks_memory results) is lacks
  where
    by : (b : Bool) → cond b (Some NoMemory) (first_refused results) ≡ Some fault → b ≡ true → fault ≡ NoMemory
    by true e t =
        let same : NoMemory ≡ fault = cc in
        sym same
    by false e t = no t

-- a day without a reason has no run that was refused memory
pub none-lacks : {X : Type 0} (results : List RunResult) → refusal_among results ≡ None → list_any lacks_memory results ≡ true → X
none-lacks {X} results is lacks = by (list_any lacks_memory results) is lacks
  where
    by : (b : Bool) → cond b (Some NoMemory) (first_refused results) ≡ None → b ≡ true → X
    by true e t = absurd (cc)
    by false e t = no t

-- results that are plans
abbrev pub planned : List WholePlan → List RunResult
planned plans = map (λ (p : WholePlan). Ok p) plans

past-planned : (plans : List WholePlan) (results : List RunResult) → first_refused (planned plans ++ results) ≡ first_refused results
past-planned [] results = refl
past-planned (p ∷ plans) results = past-planned plans results

-- a refused run behind plans is the first
pub no-refusal : {X : Type 0} (results : List RunResult) (plans : List WholePlan) (fault : DayFault) (rest : List RunResult) → results ≡ planned plans ++ Err fault ∷ rest → first_refused results ≡ None → X
no-refusal results plans fault rest are none =
    let refused : first_refused results ≡ Some fault = ap first_refused are ∙ past-planned plans (Err fault ∷ rest) in
    absurd (cc)

-- the plans of runs that are all planned
pub all-planned : (runs : List Inputs) (plans : List WholePlan) → AllZip PlansRun runs (planned plans) → (inputs_of_plans plans ≡ runs) × All IsPlannable runs
all-planned [] [] all = (refl, All-nil IsPlannable)
all-planned [] (p ∷ plans) all = absurd all
all-planned (s ∷ runs) [] all = absurd all
all-planned (s ∷ runs) (p ∷ plans) all =
    let rest = all-planned runs plans all.1 in
    (ap (λ (x : Inputs). x ∷ inputs_of_plans plans) all.0.0 ∙ ap (λ (r : List Inputs). s ∷ r) rest.0, All-cons IsPlannable s runs all.0.1 rest.1)

-- why a day is refused with all its plans is why it is refused
pub same-refusal : (runs : List Inputs) (f : DayFault) → PlansAll runs (Err f) → PlansRuns runs (Err f)
same-refusal runs (TooLarge name) is = is
same-refusal runs NoMemory is = tt
same-refusal runs (Refused f) is = is
same-refusal runs Read is = is
same-refusal runs Write is = is

-- the first of all plans is that of the first run
pub first-of-all : (plans : List WholePlan) (runs : List Inputs) → inputs_of_plans plans ≡ runs → IsOfFirst runs (slice_get plans 0)
first-of-all [] runs are = ap (λ (r : List Inputs). slice_get r 0) are
first-of-all (p ∷ plans) runs are = ap (λ (r : List Inputs). slice_get r 0) are
