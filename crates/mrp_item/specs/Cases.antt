-- What an outcome keeps.
use Rattle.std.specs.Prelude.{◌≡◌}
use Rattle.mrp_item.specs.Places.{ItemOf}
use Rattle.mrp_item.specs.Plan as plan
use Rattle.mrp_item.specs.Plan.{outcome_of}
use Rattle.mrp_item.specs.declared.outcome.Case.{Case}
use Rattle.mrp_item.specs.declared.outcome.Case.TheVariants.{Planned, Over, Blocked}

-- the item, and the inputs that it is planned from
abbrev pub item_of : Case → ItemOf
item_of (Planned p) = record { inputs = p.inputs; item = p.item }
item_of (Over inputs item) = record { inputs = inputs.value; item = item }
item_of (Blocked inputs item) = record { inputs = inputs.value; item = item }

-- the outcome of the item
abbrev pub made : Case → plan.Outcome
made (Planned p) = plan.Planned p.plan
made (Over inputs item) = plan.Over
made (Blocked inputs item) = plan.Blocked

-- the outcome is the item's
abbrev pub IsOwn : Case → Type 0
IsOwn c = outcome_of (item_of c).inputs (item_of c).item ≡ made c
