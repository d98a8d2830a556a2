-- The plan of each item, from its parents' plans.
use Rattle.std.specs.Prelude.{ℕ, suc, ◌≡◌, ◌<◌, ◌≤◌, ◌+◌, ◌*◌, ◌||◌, Bool, true, false, if◌then◌else◌, List, [], map, find, sum_by, nat_lt, Option, Some, None, Result, Ok, Err}
use Rattle.std.specs.List.{list_all}
use Rattle.mrp_qty.specs.Quantity.{greatest_quantity}
use Rattle.mrp_tables.specs.declared.rows.BillLine.{BillLine}
use Rattle.mrp_bill.specs.Bill.{parents_of, IsParent}
use Rattle.mrp_phase.specs.Weeks.{row, in_week, sum_to}
use Rattle.mrp_net.specs.Need.{need, balance}
use Rattle.mrp_lots.specs.Lots.{receipts}
use Rattle.mrp_item.specs.declared.order.Order.{Order}
use Rattle.mrp_item.specs.Inputs.{Inputs, count, horizon, places, item_at, is_master}
use Rattle.mrp_item.specs.Rows.{lines_to, independent_demand, service, stock_of}
use Rattle.mrp_item.specs.Lot.{rule_of}
use Rattle.mrp_item.specs.Orders.{orders_of, released_in}
use Rattle.mrp_item.specs.Recursion.{value_to}

-- the plan of an item: gross requirements by week, planned receipts up to each week, and orders
pub record ItemPlan : Type 0 where
  pub gross : List ℕ
  pub receipts : List ℕ
  pub orders : List Order

-- the outcome of planning an item
pub data Outcome : Type 0 where
  Planned : ItemPlan → Outcome
  Over : Outcome
  Blocked : Outcome

abbrev pub no_plan : ItemPlan
no_plan = record { gross = []; receipts = []; orders = [] }

abbrev pub plan_in : Outcome → ItemPlan
plan_in (Planned plan) = plan
plan_in Over = no_plan
plan_in Blocked = no_plan

abbrev pub is_planned : Outcome → Bool
is_planned (Planned plan) = true
is_planned Over = false
is_planned Blocked = false

abbrev pub is_over : Outcome → Bool
is_over (Planned plan) = false
is_over Over = true
is_over Blocked = false

-- the requirement of a bill line for its component in a week: the starts of its parent's orders released there, times the
-- quantity per (Orlicky: explosion)
abbrev pub line_demand : (ℕ → Outcome) → ℕ → BillLine → ℕ
line_demand above week line = sum_by (λ order. order.start * line.per) (released_in week (plan_in (above line.parent)).orders)

-- the dependent demand of a part in a week: the requirements of the lines to it
abbrev pub dependent_demand : Inputs → ℕ → (ℕ → Outcome) → ℕ → ℕ
dependent_demand s i above week = sum_by (line_demand above week) (lines_to s i)

-- the gross requirement of a part in a week: its service parts demand and its dependent demand
abbrev pub part_gross : Inputs → ℕ → (ℕ → Outcome) → ℕ → ℕ
part_gross s i above week = service s i week + dependent_demand s i above week

-- the gross requirement of an item in a week (Orlicky: gross requirements): the independent demand of a master item
-- (profile), the service parts demand and the dependent demand of a part
abbrev pub gross_in : Inputs → ℕ → (ℕ → Outcome) → ℕ → ℕ
gross_in s i above week = if is_master s i then independent_demand s i week else part_gross s i above week

-- the net requirements up to each week, and the planned receipts up to each week by the lot rule
abbrev pub needs_of : Inputs → ℕ → List ℕ → List ℕ
needs_of s i gross = row (horizon s) (need (stock_of s i) gross)

abbrev pub receipts_of : Inputs → ℕ → List ℕ → List ℕ
receipts_of s i gross = row (horizon s) (receipts (rule_of (item_at s i)) (horizon s) (in_week (needs_of s i gross)))

abbrev pub item_plan : Inputs → ℕ → List ℕ → ItemPlan
item_plan s i gross = record { gross = gross; receipts = receipts_of s i gross; orders = orders_of s i (receipts_of s i gross) }

-- a plan in which requirements, supplies or starts add up to more than the greatest quantity (profile)
abbrev pub is_too_large : Inputs → ℕ → ItemPlan → Bool
is_too_large s i plan =
    nat_lt greatest_quantity (sum_to plan.gross (horizon s) + (stock_of s i).safety)
    || (nat_lt greatest_quantity ((stock_of s i).on_hand + sum_to (stock_of s i).scheduled (horizon s) + in_week plan.receipts (horizon s))
    || nat_lt greatest_quantity (sum_by (λ order. order.start) plan.orders))

abbrev pub judged : Inputs → ℕ → ItemPlan → Outcome
judged s i plan = if is_too_large s i plan then Over else Planned plan

-- the outcome of an item, given those of its parents: blocked if one of them is not planned (profile)
abbrev pub outcome_step : Inputs → ℕ → (ℕ → Outcome) → Outcome
outcome_step s i above =
    if list_all (λ p. is_planned (above p)) (parents_of s.tables.bills (count s) i)
    then judged s i (item_plan s i (row (horizon s) (gross_in s i above)))
    else Blocked

-- the outcome of an item, by recursion up through its parents, at most as far as there are items
unfoldable pub outcome_of : Inputs → ℕ → Outcome
outcome_of s i = value_to (outcome_step s) Blocked (suc (count s)) i

-- low-level codes: parents have lesser ones, and none is above the count of items
pub record IsRanked (s : Inputs) (code : ℕ → ℕ) : Type 0 where
  pub rises : (p i : ℕ) → IsParent s.tables.bills p i → code p < code i
  pub within : (i : ℕ) → code i ≤ count s

-- each line's parent is an item
abbrev pub HasParents : Inputs → Type 0
HasParents s = (p i : ℕ) → IsParent s.tables.bills p i → p < count s

-- outcomes that are each the step of their parents' outcomes
abbrev pub IsSolution : Inputs → (ℕ → Outcome) → Type 0
IsSolution s f = (i : ℕ) → f i ≡ outcome_step s i f

-- the first item in table order that is over
abbrev pub first_over : Inputs → Option ℕ
first_over s = find (λ i. is_over (outcome_of s i)) (places s)

abbrev pub plan_unless : Option ℕ → List ItemPlan → Result (List ItemPlan) ℕ
plan_unless None plans = Ok plans
plan_unless (Some i) plans = Err i

-- the plan of every item in table order, or the first item that is over
abbrev pub plan_of : Inputs → Result (List ItemPlan) ℕ
plan_of s = plan_unless (first_over s) (map (λ i. plan_in (outcome_of s i)) (places s))

-- the balance of an item at a week's end (APICS Dictionary: projected available balance)
abbrev pub balance_in : Inputs → ℕ → ItemPlan → ℕ → ℕ
balance_in s i plan week = balance (stock_of s i) plan.gross (in_week plan.receipts week) week
