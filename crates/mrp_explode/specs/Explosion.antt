-- The result of an explosion.
use Rattle.std.specs.Prelude.{◌≡◌, Result, Ok, Err, ⊤}
use Rattle.mrp_item.specs.Inputs.{Inputs}
use Rattle.mrp_item.specs.Plan.{plan_of}
use Rattle.mrp_item.specs.Places.{WholePlan}
use Rattle.mrp_explode.specs.declared.fault.RunFault.{RunFault}
use Rattle.mrp_explode.specs.declared.fault.RunFault.TheVariants.{NoMemory, TooLarge}

-- the plan of every item for these inputs (Orlicky: explosion), or the first item in table order that is over
-- (profile); or out of memory
abbrev pub Explodes : Inputs → Result WholePlan RunFault → Type 0
Explodes s (Ok plan) = (plan.inputs ≡ s) × (plan_of s ≡ Ok plan.plans)
Explodes s (Err (TooLarge item)) = plan_of s ≡ Err item
Explodes s (Err NoMemory) = ⊤
