-- Net change: which items are planned anew for other inputs, and which outcomes are carried over (Orlicky: net change).
use Rattle.std.specs.Prelude.{ℕ, ◌≡◌, ◌≢◌, ◌<◌, ◌≤◌, ◌+◌, ◌⊎◌, true, false, List, All, length, MatchBool, Option, Some, None}
use Rattle.std.specs.Int.{IsInRange}
use Rattle.mrp_tables.specs.Facts.{AllDiffer}
use Rattle.mrp_bill.specs.Bill.{IsParent}
use Rattle.mrp_item.specs.Inputs.{Inputs, count, horizon, is_master}
use Rattle.mrp_item.specs.Made.{item_from}
use Rattle.mrp_item.specs.Own.{IsReady}
use Rattle.mrp_item.specs.Places.{ItemOf}
use Rattle.mrp_item.specs.Plan.{Outcome, is_planned, outcome_of, plan_in}
use Rattle.mrp_item.specs.Rows.{booked}

-- two outcomes demand the same of components: both items are planned, with the same orders, or neither is
pub record DemandTheSame (old new : Outcome) : Type 0 where
  pub planned : is_planned old ≡ is_planned new
  pub orders : (plan_in old).orders ≡ (plan_in new).orders

-- the tables are the same, the bookings of a master item in each week, and the orders of the item's parents
pub record IsUntouched (old new : Inputs) (i : ℕ) (above_old above_new : ℕ → Outcome) : Type 0 where
  pub tables : old.tables ≡ new.tables
  pub booked : is_master old i ≡ true → (week : ℕ) → IsInRange 1 (horizon old) week → booked old i week ≡ booked new i week
  pub parents : (p : ℕ) → IsParent old.tables.bills p i → DemandTheSame (above_old p) (above_new p)

-- the standing quantity of an item differs in some week
abbrev pub IsRebooked : Inputs → Inputs → ℕ → Type 0
IsRebooked old new i = (week : ℕ) × IsInRange 1 (horizon new) week × (booked old i week ≢ booked new i week)

-- the orders of an item differ
abbrev pub IsReordered : Inputs → Inputs → ℕ → Type 0
IsReordered old new i = (plan_in (outcome_of old i)).orders ≢ (plan_in (outcome_of new i)).orders

-- the item is planned, and demands the same of components as before
pub record KeepsOrders (old new : Inputs) (i : ℕ) : Type 0 where
  pub planned : is_planned (outcome_of new i) ≡ true
  pub demand : DemandTheSame (outcome_of old i) (outcome_of new i)

-- the item is not planned, or its orders differ
abbrev pub LosesOrders : Inputs → Inputs → ℕ → Type 0
LosesOrders old new i = (is_planned (outcome_of new i) ≡ false) ⊎ IsReordered old new i

-- net change plans the item anew: a master item whose standing quantity differs in some week, or a part with a parent whose orders differ
abbrev pub IsTouched : Inputs → Inputs → ℕ → Type 0
IsTouched old new i = MatchBool (is_master new i) (IsRebooked old new i) ((p : ℕ) × IsParent new.tables.bills p i × IsReordered old new p)

-- net change leaves the item alone: it is not touched, all its parents are planned, and so its plan depends on nothing that changed
pub record IsLeftAlone (old new : Inputs) (i : ℕ) : Type 0 where
  pub untouched : IsTouched old new i → ⊥
  pub ready : IsReady new i
  pub same : IsUntouched old new i (outcome_of old) (outcome_of new)

-- the outcome of an item of an equal shop
pub record IsOfShop (old : Inputs) (o : ItemOf) : Type 0 where
  pub tables : old.tables ≡ o.inputs.tables
  pub within : o.item < count o.inputs

-- an outcome is carried over to new inputs exactly if net change leaves the item alone; it is then the item's
abbrev pub Carries : Inputs → Inputs → ℕ → Option ItemOf → Type 0
Carries old new i (Some o) = (o ≡ item_from new i) × IsLeftAlone old new i
Carries old new i None = IsTouched old new i ⊎ (IsReady new i → ⊥)

-- a count has risen by no more than the number of touched items: by that of a list of different ones
abbrev pub RisesByTouched : Inputs → Inputs → ℕ → ℕ → Type 0
RisesByTouched old new before after =
    (touched : List ℕ) × AllDiffer touched × All (λ i. (i < count new) × IsTouched old new i) touched × (after ≤ before + length touched)
