-- What holds of a plan of every item.
use Rattle.std.specs.Prelude.{ℕ, ◌≡◌, ◌<◌, map, None}
use Rattle.mrp_item.specs.Inputs.{count, places}
use Rattle.mrp_item.specs.Places.{WholePlan}
use Rattle.mrp_item.specs.Plan.{Planned, first_over, outcome_of, plan_in}
use Rattle.mrp_item.specs.Made.{all_from}
use Rattle.mrp_item.specs.declared.plan.Plan.TheInside.{Inside}

abbrev pub whole_view : Inside → WholePlan
whole_view p = record { inputs = p.inputs.value; plans = map (λ i. plan_in (outcome_of p.inputs.value i)) (places p.inputs.value) }

-- the outcomes are those of all items, in table order; no item is over, and so each is planned
pub record IsWhole (p : Inside) : Type 0 where
  pub outcomes : p.outcomes.items ≡ all_from p.inputs.value
  pub none_over : first_over p.inputs.value ≡ None
  pub planned : (i : ℕ) → i < count p.inputs.value → outcome_of p.inputs.value i ≡ Planned (plan_in (outcome_of p.inputs.value i))
