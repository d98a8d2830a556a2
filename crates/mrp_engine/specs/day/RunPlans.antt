-- The plans that are kept of a day's runs (profile).
use Rattle.std.specs.Prelude.{◌≡◌, List, Option, None, Some, IfSome, slice_get}
use Rattle.std.specs.Option.{option_map}
use Rattle.mrp_tables.specs.Tables.{Tables}
use Rattle.mrp_item.specs.Inputs.{Inputs}
use Rattle.mrp_item.specs.Places.{WholePlan}
use Rattle.mrp_engine.specs.declared.day.run_plans.RunPlans.{RunPlans}

-- one more plan: that of the first run, if there was none yet, otherwise that of the last
abbrev pub added : RunPlans → Option WholePlan → WholePlan → RunPlans
added plans None plan = record plans { first = Some plan }
added plans (Some first) plan = record plans { last = Some plan }

abbrev pub with_plan : RunPlans → WholePlan → RunPlans
with_plan plans plan = added plans plans.first plan

-- one more run is planned, from these inputs
abbrev pub AddsRun : Inputs → RunPlans → RunPlans → Type 0
AddsRun s old new = (plan : WholePlan) × (plan.inputs ≡ s) × (new ≡ with_plan old plan)

-- a plan of a shop, if there is one
abbrev pub IsOfShop : Tables → Option WholePlan → Type 0
IsOfShop tables plan = IfSome plan (λ p. p.inputs.tables ≡ tables)

-- both plans are of a shop
pub record AreOfShop (tables : Tables) (plans : RunPlans) : Type 0 where
  pub first : IsOfShop tables plans.first
  pub last : IsOfShop tables plans.last

-- the plan of the first of these runs; none if there is no run
abbrev pub IsOfFirst : List Inputs → Option WholePlan → Type 0
IsOfFirst runs first = option_map (λ p. p.inputs) first ≡ slice_get runs 0
