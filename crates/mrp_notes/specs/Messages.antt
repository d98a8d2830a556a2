-- The messages to the planner (APICS Dictionary: action message).
use Rattle.std.specs.Prelude.{ℕ, List, flat_map}
use Rattle.mrp_item.specs.Inputs.{Inputs, places}
use Rattle.mrp_item.specs.Plan.{ItemPlan, outcome_of, plan_in}
use Rattle.mrp_item.specs.Rows.{stock_of}
use Rattle.mrp_item.specs.Supplies.{supplies_to_come}
use Rattle.mrp_notes.specs.declared.message.Message.{Message}
use Rattle.mrp_notes.specs.Told.{told}

-- the messages of an item's plan, in order of its supplies
abbrev pub messages_of : Inputs → ℕ → ItemPlan → List Message
messages_of s i plan = told i plan.gross (stock_of s i) (supplies_to_come s i plan.orders)

-- the messages of every item's plan, in table order
abbrev pub plan_messages : Inputs → List Message
plan_messages s = flat_map (λ i. messages_of s i (plan_in (outcome_of s i))) (places s)
