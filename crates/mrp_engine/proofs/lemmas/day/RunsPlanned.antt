-- The runs of a history, entry by entry.
use Rattle.std.proofs.Common.{◌≡◌, ◌∙◌, ℕ, ◌+◌, ◌<◌, ◌≤◌, List, [], ◌∷◌, ◌++◌, length, take, drop, get_or, Option, None, Some, Err, sym, ap, subst, refl}
use Rattle.std.proofs.lemmas.List.{take_more, take_all, drop_more, take-append-drop, append-nil}
use Rattle.std.proofs.lemmas.List.Concat.{flat_map-append}
use Rattle.std.proofs.lemmas.List.Elements.{All-push}
use Rattle.std.specs.Prelude.{All, is_some, false}
use Rattle.std.specs.Option.{option_map, option_or}
use Rattle.mrp_turn.specs.declared.log.Entry.{Entry}
use Rattle.mrp_tables.specs.Tables.{Tables}
use Rattle.mrp_book.specs.declared.call.Call.{Call}
use Rattle.mrp_book.specs.declared.reply.Reply.{Reply}
use Rattle.mrp_book.specs.declared.reply.Reply.TheVariants as reply
use Rattle.mrp_book.specs.Snapshot.{Snapshot}
use Rattle.mrp_book.specs.Standing.{History}
use Rattle.mrp_item.specs.Inputs.{Inputs, inputs_of}
use Rattle.mrp_item.specs.Places.{WholePlan}
use Rattle.mrp_engine.specs.day.Day.{IsFirstRefusal, IsPlannable, IsRefusedBy, planned_from, runs_of}
use Rattle.mrp_engine.specs.day.Planned.{JudgesRun, PlansRuns}
use Rattle.mrp_engine.specs.day.RunPlans.{AddsRun, AreOfShop, IsOfFirst, IsOfShop, added, with_plan}
use Rattle.mrp_engine.specs.declared.day.run_plans.RunPlans.{RunPlans}
use Rattle.mrp_engine.specs.declared.day.fault.DayFault.{DayFault}
use Rattle.mrp_engine.specs.declared.day.fault.DayFault.TheVariants.{Refused, TooLarge, Read, Write, NoMemory}

-- the runs up to an entry, that entry's and those after it
pub runs-cut : (t : Tables) (h : History) (k : ℕ) (e : Entry Call Reply) → k < length h → e ≡ get_or h k e → runs_of t h ≡ runs_of t (take k h) ++ (planned_from t e.reply ++ runs_of t (drop (k + 1) h))
runs-cut t h k e within is =
    let split : h ≡ take k h ++ e ∷ drop (k + 1) h =
    sym (take-append-drop k h) ∙ ap (λ (r : History). take k h ++ r) (drop_more h k e within ∙ ap (λ (x : Entry Call Reply). x ∷ drop (k + 1) h) (sym is)) in
    ap (runs_of t) split ∙ flat_map-append (λ (x : Entry Call Reply). planned_from t x.reply) (take k h) (e ∷ drop (k + 1) h)

pub runs-more : (t : Tables) (h : History) (k : ℕ) (e : Entry Call Reply) → k < length h → e ≡ get_or h k e → runs_of t (take (k + 1) h) ≡ runs_of t (take k h) ++ planned_from t e.reply
runs-more t h k e within is =
    ap (runs_of t) (take_more h k e within ∙ ap (λ (x : Entry Call Reply). take k h ++ x ∷ []) (sym is))
    ∙ flat_map-append (λ (x : Entry Call Reply). planned_from t x.reply) (take k h) (e ∷ [])
    ∙ ap (λ (r : List Inputs). runs_of t (take k h) ++ r) (append-nil (planned_from t e.reply))

-- the first plan stays that of the first run
first-added : (runs : List Inputs) (plans : RunPlans) (first : Option WholePlan) (plan : WholePlan) (s : Inputs) → plans.first ≡ first → IsOfFirst runs first → plan.inputs ≡ s
    → IsOfFirst (runs ++ s ∷ []) (added plans first plan).first
first-added [] plans None plan s same of is = ap (λ (x : Inputs). Some x) is
first-added [] plans (Some p) plan s same of is = absurd (cc)
first-added (x ∷ xs) plans None plan s same of is = absurd (cc)
first-added (x ∷ xs) plans (Some p) plan s same of is = subst (λ (m : Option WholePlan). option_map (λ q. q.inputs) m ≡ Some x) (sym same) of

-- plans of a shop, with one more
shop-added : (t : Tables) (plans : RunPlans) (first : Option WholePlan) (plan : WholePlan) → AreOfShop t plans → plan.inputs.tables ≡ t → AreOfShop t (added plans first plan)
shop-added t plans None plan of is = record { first = is; last = of.last }
shop-added t plans (Some p) plan of is = record { first = of.first; last = is }

-- the plan of a first run stands first
pub none-first : (plans : RunPlans) (plan : WholePlan) → is_some plans.first ≡ false → record plans { first = Some plan } ≡ with_plan plans plan
none-first plans plan none = by plans.first none
  where
    by : (first : Option WholePlan) → is_some first ≡ false → record plans { first = Some plan } ≡ added plans first plan
    by None is = refl
    by (Some p) is = absurd (cc)

-- the last plan is of the shop
pub last-of-shop : (t : Tables) (plans : RunPlans) → AreOfShop t plans → IsOfShop t (option_or plans.last plans.first)
last-of-shop t plans of = by plans.last of.last
  where
    by : (last : Option WholePlan) → IsOfShop t last → IsOfShop t (option_or last plans.first)
    by None is = of.first
    by (Some p) is = is

-- the runs up to an entry can be planned, and two of their plans are kept
pub record HasPlanned (t : Tables) (h : History) (k : ℕ) (plans : RunPlans) : Type 0 where
  pub first : IsOfFirst (runs_of t (take k h)) plans.first
  pub of_shop : AreOfShop t plans
  pub plannable : All IsPlannable (runs_of t (take k h))

-- one more run is planned
pub planned-more : (t : Tables) (h : History) (k : ℕ) (e : Entry Call Reply) (snapshot : Snapshot) (old new : RunPlans) → k < length h → e ≡ get_or h k e → e.reply ≡ reply.Taken snapshot
    → HasPlanned t h k old → AddsRun (inputs_of t snapshot) old new → IsPlannable (inputs_of t snapshot) → HasPlanned t h (k + 1) new
planned-more t h k e snapshot old new within is taken before (plan, from, adds) plannable =
    let s = inputs_of t snapshot in
    let more : runs_of t (take (k + 1) h) ≡ runs_of t (take k h) ++ s ∷ [] = runs-more t h k e within is ∙ ap (λ (r : Reply). runs_of t (take k h) ++ planned_from t r) taken in
    let first : IsOfFirst (runs_of t (take k h) ++ s ∷ []) (with_plan old plan).first = first-added (runs_of t (take k h)) old old.first plan s refl before.first from in
    let shop : AreOfShop t (with_plan old plan) = shop-added t old old.first plan before.of_shop (ap (λ (x : Inputs). x.tables) from) in
    record {
      first = subst (λ (x : RunPlans). IsOfFirst (runs_of t (take (k + 1) h)) x.first) (sym adds) (subst (λ (runs : List Inputs). IsOfFirst runs (with_plan old plan).first) (sym more) first);
      of_shop = subst (AreOfShop t) (sym adds) shop;
      plannable = subst (All IsPlannable) (sym more) (All-push IsPlannable (runs_of t (take k h)) s before.plannable plannable);
    }

-- an entry that is no run leaves the runs as they are
pub runs-same : (t : Tables) (h : History) (k : ℕ) (e : Entry Call Reply) → k < length h → e ≡ get_or h k e → planned_from t e.reply ≡ [] → runs_of t (take (k + 1) h) ≡ runs_of t (take k h)
runs-same t h k e within is none =
    runs-more t h k e within is ∙ ap (λ (r : List Inputs). runs_of t (take k h) ++ r) none ∙ append-nil (runs_of t (take k h))

pub planned-same : (t : Tables) (h : History) (k : ℕ) (e : Entry Call Reply) (plans : RunPlans) → k < length h → e ≡ get_or h k e → planned_from t e.reply ≡ [] → HasPlanned t h k plans → HasPlanned t h (k + 1) plans
planned-same t h k e plans within is none before =
    let same = runs-same t h k e within is none in
    record {
      first = subst (λ (runs : List Inputs). IsOfFirst runs plans.first) (sym same) before.first;
      of_shop = before.of_shop;
      plannable = subst (All IsPlannable) (sym same) before.plannable;
    }

-- all entries are walked
pub planned-all : (t : Tables) (h given : History) (k : ℕ) (plans : RunPlans) → h ≡ given → length h ≤ k → HasPlanned t h k plans → IsOfFirst (runs_of t given) plans.first × All IsPlannable (runs_of t given)
planned-all t h given k plans same all before =
    let whole : runs_of t (take k h) ≡ runs_of t given = ap (runs_of t) (take_all k h all ∙ same) in
    (subst (λ (runs : List Inputs). IsOfFirst runs plans.first) whole before.first, subst (All IsPlannable) whole before.plannable)

-- the first run that is refused
first-refused : (t : Tables) (h : History) (k : ℕ) (e : Entry Call Reply) (snapshot : Snapshot) (plans : RunPlans) (name : List ℕ) → k < length h → e ≡ get_or h k e → e.reply ≡ reply.Taken snapshot
    → HasPlanned t h k plans → IsRefusedBy (inputs_of t snapshot) name → IsFirstRefusal (runs_of t h) name
first-refused t h k e snapshot plans name within is taken before refused = (
  runs_of t (take k h),
  inputs_of t snapshot,
  runs_of t (drop (k + 1) h),
  runs-cut t h k e within is ∙ ap (λ (r : Reply). runs_of t (take k h) ++ (planned_from t r ++ runs_of t (drop (k + 1) h))) taken,
  before.plannable,
  refused,
)

-- a run that is not planned ends the planning
pub run-refused : (X : Type 0) (t : Tables) (h given : History) (k : ℕ) (e : Entry Call Reply) (snapshot : Snapshot) (plans : RunPlans) (fault : DayFault) → h ≡ given → k < length h → e ≡ get_or h k e → e.reply ≡ reply.Taken snapshot
    → HasPlanned t h k plans → JudgesRun {X = X} (inputs_of t snapshot) (Err fault) → PlansRuns (runs_of t given) (Err fault)
run-refused X t h given k e snapshot plans (TooLarge name) same within is taken before refused =
    subst (λ (x : History). IsFirstRefusal (runs_of t x) name) same (first-refused t h k e snapshot plans name within is taken before refused)
run-refused X t h given k e snapshot plans NoMemory same within is taken before refused = tt
run-refused X t h given k e snapshot plans (Refused f) same within is taken before refused = refused
run-refused X t h given k e snapshot plans Read same within is taken before refused = refused
run-refused X t h given k e snapshot plans Write same within is taken before refused = refused

-- a reply that is no snapshot plans nothing
pub not-a-run : (t : Tables) (r : Reply) → ((snapshot : Snapshot) → r ≡ reply.Taken snapshot → ⊥) → planned_from t r ≡ []
not-a-run t (reply.Taken snapshot) other = absurd (other snapshot refl)
not-a-run t (reply.Booked n) other = refl
not-a-run t (reply.Short a) other = refl
not-a-run t reply.Cancelled other = refl
not-a-run t reply.NotStanding other = refl
not-a-run t reply.NotYours other = refl
not-a-run t (reply.Available a) other = refl
not-a-run t (reply.Week w) other = refl
not-a-run t reply.NoWeek other = refl
not-a-run t (reply.Front n) other = refl
