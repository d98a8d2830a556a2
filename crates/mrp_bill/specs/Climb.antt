-- A walk up through parents.
use Rattle.std.specs.Prelude.{ℕ, suc, ◌≡◌, ◌≢◌, ◌+◌, ◌-◌, ◌*◌, ◌<◌, ◌≤◌, Bool, true, false, ◌||◌, List, [], ◌∷◌, ◌++◌, length, take, sum, sum_by, slice_index, slice_index_or, slice_set}
use Rattle.mrp_bill.specs.declared.climb.Stage.{Stage}
use Rattle.mrp_bill.specs.declared.climb.Stage.TheVariants.{New, Open, Placed}
use Rattle.mrp_bill.specs.declared.climb.Climb.{Climb}
use Rattle.mrp_bill.specs.Links.{Leads}
use Rattle.mrp_bill.specs.Grouped.{listed, IsListed}

abbrev pub stage_at : List Stage → ℕ → Stage
stage_at stages i = slice_index_or stages i New

-- how often the walk will still move an item
abbrev pub moves : Stage → ℕ
moves New = 2
moves (Open depth) = 1
moves (Placed place) = 0

-- the remaining work of a walk
abbrev pub work : Climb → ℕ
work c = sum_by moves c.stages.items + sum c.left.items

-- the open items are those on the stack, and the placed ones those in the order
pub record AreStages (stages : List Stage) (stack order : List ℕ) : Type 0 where
  pub opened : (i depth : ℕ) → i < length stages → stage_at stages i ≡ Open depth → (depth < length stack) × (slice_index stack depth ≡ i)
  pub stacked : (k : ℕ) → k < length stack → (slice_index stack k < length stages) × (stage_at stages (slice_index stack k) ≡ Open k)
  pub placed : (i place : ℕ) → i < length stages → stage_at stages i ≡ Placed place → (place < length order) × (slice_index order place ≡ i)
  pub ordered : (k : ℕ) → k < length order → (slice_index order k < length stages) × (stage_at stages (slice_index order k) ≡ Placed k)
  pub moved : sum_by moves stages + length stack + 2 * length order ≡ 2 * length stages

-- each item on the stack is a parent of the one below it
abbrev pub IsLinked : (ℕ → ℕ → Type 0) → List ℕ → Type 0
IsLinked R stack = (k : ℕ) → suc k < length stack → R (slice_index stack (suc k)) (slice_index stack k)

-- each parent of each item in the order comes before it
abbrev pub IsSettled : (ℕ → ℕ → Type 0) → List ℕ → Type 0
IsSettled R order = (k p : ℕ) → k < length order → R p (slice_index order k) → (j : ℕ) × (j < k) × (slice_index order j ≡ p)

-- the parents that were passed are placed
abbrev pub ArePassed : List (List ℕ) → List ℕ → List Stage → Type 0
ArePassed parents left stages =
    (i k : ℕ) → i < length stages → slice_index left i ≤ k → k < length (listed parents i)
    → (place : ℕ) × (stage_at stages (slice_index (listed parents i) k) ≡ Placed place)

-- the state of a walk
pub record IsClimb (parents : List (List ℕ)) (c : Climb) : Type 0 where
  pub size : length c.stages.items ≡ length parents
  pub sizes : length c.left.items ≡ length parents
  pub stages : AreStages c.stages.items c.stack.items c.order.items
  pub linked : IsLinked (IsListed parents) c.stack.items
  pub within : (i : ℕ) → i < length parents → slice_index c.left.items i ≤ length (listed parents i)
  pub passed : c.closed ≡ false → ArePassed parents c.left.items c.stages.items
  pub settled : c.closed ≡ false → IsSettled (IsListed parents) c.order.items
  pub loops : c.closed ≡ true → (i : ℕ) × Leads (IsListed parents) i i

-- an item is put on the stack
pub record Opens (old new : Climb) (item : ℕ) : Type 0 where
  pub stages : new.stages.items ≡ slice_set old.stages.items item (Open (length old.stack.items))
  pub stack : new.stack.items ≡ old.stack.items ++ (item ∷ [])
  pub order : new.order.items ≡ old.order.items
  pub left : new.left.items ≡ old.left.items
  pub closed : new.closed ≡ old.closed

-- the item on top of the stack is moved to the end of the order
pub record Places (old new : Climb) (item : ℕ) : Type 0 where
  pub stages : new.stages.items ≡ slice_set old.stages.items item (Placed (length old.order.items))
  pub stack : new.stack.items ≡ take (length old.stack.items - 1) old.stack.items
  pub order : new.order.items ≡ old.order.items ++ (item ∷ [])
  pub left : new.left.items ≡ old.left.items
  pub closed : new.closed ≡ old.closed

-- items that were found stay found
abbrev pub KeepsMet : Climb → Climb → Type 0
KeepsMet old new = (i : ℕ) → stage_at old.stages.items i ≢ New → stage_at new.stages.items i ≢ New

-- an item has passed a parent, and this closes a loop or does not
pub record Passes (old new : Climb) (item remaining : ℕ) (closes : Bool) : Type 0 where
  pub stages : new.stages.items ≡ old.stages.items
  pub stack : new.stack.items ≡ old.stack.items
  pub order : new.order.items ≡ old.order.items
  pub left : new.left.items ≡ slice_set old.left.items item remaining
  pub closed : new.closed ≡ (old.closed || closes)
