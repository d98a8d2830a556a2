-- Net change: outcomes of items, each carried over from an older plan or planned (Orlicky: net change).
use Rattle.std.specs.Prelude.{ℕ, ◌≡◌, ◌≤◌, ◌+◌, ◌⊎◌, Bool, true, false, List, Option, Some, None, IsSome}
use Rattle.std.specs.List.{slice_index_or}
use Rattle.mrp_item.specs.Inputs.{Inputs}
use Rattle.mrp_item.specs.Made.{item_from}
use Rattle.mrp_item.specs.NetChange.{IsTouched, KeepsOrders}
use Rattle.mrp_item.specs.Own.{IsReady}
use Rattle.mrp_item.specs.Places.{ItemOf}

-- there is an outcome in an item's place
abbrev pub IsMade : {M : Type 0} → List (Option M) → ℕ → Type 0
IsMade made i = IsSome (slice_index_or made i None)

-- each outcome is of the item in whose place it is
abbrev pub AreOwn : {M : Type 0} → (M → ItemOf) → Inputs → List (Option M) → Type 0
AreOwn {M} item_of s made = (i : ℕ) (m : M) → slice_index_or made i None ≡ Some m → item_of m ≡ item_from s i

-- the items that are marked keep their orders
abbrev pub KeepMarked : Inputs → Inputs → List Bool → Type 0
KeepMarked old new kept = (i : ℕ) → slice_index_or kept i false ≡ true → KeepsOrders old new i

-- an item's outcome, and whether it keeps its orders because it was carried over; if not it was planned, as net change or a
-- parent without a plan demands, and counted
pub record IsRemade (old new : Inputs) (i : ℕ) (before after : ℕ) (outcome : ItemOf) (kept : Bool) : Type 0 where
  pub own : outcome ≡ item_from new i
  pub keeps : kept ≡ true → KeepsOrders old new i
  pub uncounted : kept ≡ true → after ≡ before
  pub counted : kept ≡ false → after ≤ before + 1
  pub touched : kept ≡ false → IsTouched old new i ⊎ (IsReady new i → ⊥)
