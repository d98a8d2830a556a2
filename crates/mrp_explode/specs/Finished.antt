-- The items that are planned so far, parents before their components.
use Rattle.std.specs.Prelude.{ℕ, ◌≡◌, All, List, Option, None, IsSome}
use Rattle.std.specs.List.{slice_index_or}
use Rattle.mrp_bill.specs.Bill.{parents_of}
use Rattle.mrp_item.specs.Inputs.{Inputs, count}
use Rattle.mrp_item.specs.Places.{ItemOf}

-- the outcomes so far, by their items' places, and the inputs that they are planned from
pub record Progress : Type 0 where
  pub inputs : Inputs
  pub outcomes : List (Option ItemOf)

abbrev pub IsFinished : Progress → ℕ → Type 0
IsFinished p i = IsSome (slice_index_or p.outcomes i None)

-- all parents of an item are finished
abbrev pub IsReady : Progress → ℕ → Type 0
IsReady p i = All (IsFinished p) (parents_of p.inputs.tables.bills (count p.inputs) i)

-- one more item is finished
pub record Finishes (old new : Progress) (item : ℕ) : Type 0 where
  pub inputs : new.inputs ≡ old.inputs
  pub here : IsFinished new item
  pub others : (i : ℕ) → IsFinished old i → IsFinished new i

-- these items are finished too
pub record FinishesAll (old new : Progress) (items : List ℕ) : Type 0 where
  pub inputs : new.inputs ≡ old.inputs
  pub here : All (IsFinished new) items
  pub others : (i : ℕ) → IsFinished old i → IsFinished new i
