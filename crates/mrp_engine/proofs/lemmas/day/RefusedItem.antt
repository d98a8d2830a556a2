-- The item that a plan is refused by.
use Rattle.std.proofs.Common.{◌≡◌, ◌∙◌, ℕ, zero, suc, ◌+◌, ◌<◌, Bool, true, false, cond, List, Option, Some, None, Result, Ok, Err, get_or, ap, refl, arith}
use Rattle.std.proofs.lemmas.List.{get_or_default}
use Rattle.std.specs.Prelude.{find, map}
use Rattle.std.specs.List.{range_with_len}
use Rattle.mrp_tables.specs.declared.item.Item.{Item}
use Rattle.mrp_item.specs.Inputs.{Inputs, count, item_at, places}
use Rattle.mrp_item.specs.Places.{WholePlan}
use Rattle.mrp_explode.specs.Explosion.{Explodes}
use Rattle.mrp_explode.specs.declared.fault.RunFault.{RunFault}
use Rattle.mrp_explode.specs.declared.fault.RunFault.TheVariants as run
use Rattle.mrp_engine.specs.day.Fault.{plan_or_fault, run_fault}
use Rattle.mrp_engine.specs.day.Planned.{JudgesRun, PlansRun}
use Rattle.mrp_engine.specs.declared.day.fault.DayFault.{DayFault}
use Rattle.mrp_engine.specs.declared.day.fault.DayFault.TheVariants.{Refused, TooLarge, Read, Write, NoMemory}
use Rattle.mrp_item.specs.Plan.{plan_in, plan_of, plan_unless, first_over, is_over, outcome_of}

find-below : (p : ℕ → Bool) (a n i : ℕ) → find p (range_with_len a n) ≡ Some i → i < a + n
find-below p a zero i e = absurd (cc)
find-below p a (suc n) i e = by (p a) e (find-below p (a + 1) n i)
  where
    by : (b : Bool) → cond b (Some a) (find p (range_with_len (a + 1) n)) ≡ Some i → (find p (range_with_len (a + 1) n) ≡ Some i → i < a + 1 + n) → i < a + suc n
    by true k rest =
        let same : a ≡ i = cc in
        omega (arith, same)
    by false k rest = omega (arith, rest k)

-- the item that a plan is refused by is an item of the table
pub over-within : (s : Inputs) (i : ℕ) → plan_of s ≡ Err i → i < count s
over-within s i e = by (first_over s) refl e
  where
    by : (o : Option ℕ) → first_over s ≡ o → plan_unless o (map (λ i. plan_in (outcome_of s i)) (places s)) ≡ Err i → i < count s
    by None found k = absurd (cc)
    by (Some a) found k =
        let same : a ≡ i = cc in
        omega (arith, same, find-below (λ j. is_over (outcome_of s j)) 0 (count s) a found)

-- the entry of an item in the table
pub entry-is : (s : Inputs) (items : List Item) (i : ℕ) (entry d : Item) → items ≡ s.tables.items → i < count s → entry ≡ get_or items i d → entry ≡ item_at s i
entry-is s items i entry d same within read = read ∙ ap (λ (xs : List Item). get_or xs i d) same ∙ get_or_default s.tables.items i d _ within

-- a run that is refused, by the name of its item
pub refused-run : (s : Inputs) (fault : RunFault) → Explodes s (Err fault) → PlansRun s (Err (run_fault s fault))
refused-run s (run.TooLarge item) is = (item, is, refl)
refused-run s run.NoMemory is = tt

-- a run, planned or refused
pub planned-run : (s : Inputs) (planned : Result WholePlan RunFault) → Explodes s planned → PlansRun s (plan_or_fault s planned)
planned-run s (Ok plan) is = (is.0, (plan.plans, is.1))
planned-run s (Err fault) is = refused-run s fault is

-- what planning a run comes to
pub judged-err : (X : Type 0) (s : Inputs) (f : DayFault) → PlansRun s (Err f) → JudgesRun {X = X} s (Err f)
judged-err X s (TooLarge name) is = is
judged-err X s NoMemory is = tt
judged-err X s (Refused f) is = is
judged-err X s Read is = is
judged-err X s Write is = is
