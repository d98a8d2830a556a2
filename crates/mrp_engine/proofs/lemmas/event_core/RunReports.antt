-- What a core answers of a run's report.
use Rattle.std.proofs.Common.{◌≡◌, ◌∙◌, ℕ, [], Option, Some, None, true, Err, ap, refl, sym}
use Rattle.std.specs.Prelude.{map, find}
use Rattle.std.specs.List.{range_with_len}
use Rattle.std.proofs.lemmas.Bool.{eqb-true}
use Rattle.mrp_item.specs.Inputs.{Inputs, count, places}
use Rattle.mrp_item.specs.Plan.{first_over, is_over, outcome_of, plan_in, plan_of, plan_unless}
use Rattle.mrp_engine.specs.day.Day.{IsPlannable}
use Rattle.mrp_board.specs.Board.{is_finished}
use Rattle.mrp_engine.proofs.lemmas.event_core.BoardLogs.{finished-none}

-- the first item that is over refuses the plan
pub over-refuses : (s : Inputs) (item : ℕ) → first_over s ≡ Some item → plan_of s ≡ Err item
over-refuses s item is = ap (λ (o : Option ℕ). plan_unless o (map (λ i. plan_in (outcome_of s i)) (places s))) is

-- where none is there is a plan
pub none-over : (s : Inputs) → first_over s ≡ None → IsPlannable s
none-over s is = (map (λ i. plan_in (outcome_of s i)) (places s), ap (λ (o : Option ℕ). plan_unless o (map (λ i. plan_in (outcome_of s i)) (places s))) is)

passed : (o : Option ℕ) → ((item : ℕ) → o ≡ Some item → ⊥) → o ≡ None
passed None none = refl
passed (Some item) none = absurd (none item refl)

pub passed-over : (s : Inputs) (o : Option ℕ) → o ≡ first_over s → ((item : ℕ) → o ≡ Some item → ⊥) → IsPlannable s
passed-over s o is none = none-over s (sym is ∙ passed o none)

-- so it is of a run that is finished without an entry
pub empty-plannable : (s : Inputs) → is_finished s [] ≡ true → IsPlannable s
empty-plannable s done =
    let empty : count s ≡ 0 = eqb-true (count s) 0 (sym (finished-none s) ∙ done) in
    none-over s (ap (λ (n : ℕ). find (λ i. is_over (outcome_of s i)) (range_with_len 0 n)) empty)
