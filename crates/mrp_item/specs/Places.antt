-- An item and the inputs that it is planned from, as contracts see outcomes.
use Rattle.std.specs.Prelude.{ℕ, List}
use Rattle.mrp_item.specs.Inputs.{Inputs}
use Rattle.mrp_item.specs.Plan.{ItemPlan}

pub record ItemOf : Type 0 where
  pub inputs : Inputs
  pub item : ℕ

pub record PlannedItem : Type 0 where
  pub inputs : Inputs
  pub item : ℕ
  pub plan : ItemPlan

pub record WholePlan : Type 0 where
  pub inputs : Inputs
  pub plans : List ItemPlan
