-- A planned item.
use Rattle.std.specs.Prelude.{ℕ, ◌≡◌, false}
use Rattle.mrp_item.specs.Inputs.{Inputs}
use Rattle.mrp_item.specs.Own.{own_gross}
use Rattle.mrp_item.specs.Plan.{is_too_large, item_plan, outcome_of, plan_in}

-- an item that is planned: its plan is that of its gross requirements, and not too large
pub record IsOwn (s : Inputs) (i : ℕ) : Type 0 where
  pub plan : plan_in (outcome_of s i) ≡ item_plan s i (own_gross s i)
  pub small : is_too_large s i (item_plan s i (own_gross s i)) ≡ false
