-- The loops of the first items.
use Rattle.std.specs.Prelude.{ℕ, ◌≡◌, ◌<◌, ◌⊎◌, List, [], ◌∷◌, ◌++◌, Vec, length, All}
use Rattle.std.specs.declared.alloc.Global.{Global}
use Rattle.mrp_loops.specs.declared.line.Line.{Line}
use Rattle.mrp_loops.specs.declared.telling.Telling.{Telling}
use Rattle.mrp_loops.specs.Needs.{IsFirst, IsWay, Needs}
use Rattle.mrp_loops.specs.Loops.{AreRising, IsTold, IsWayBack, items_of}
use Rattle.mrp_loops.specs.Search.{IsClear, IsMarked, IsMet}

-- the loops that begin at the first items were found, and the items in their sets are marked
pub record IsTelling (lines : List Line) (count end : ℕ) (t : Telling) : Type 0 where
  pub above : IsClear count t.above
  pub below : IsClear count t.below
  pub size : length t.told.items ≡ count
  pub ways : All (λ told. IsWayBack lines told.item told.way.items) t.loops.items
  pub firsts : All (IsFirst lines) (items_of t.loops.items)
  pub rising : AreRising (items_of t.loops.items)
  pub ended : All (λ item. item < end) (items_of t.loops.items)
  pub told : (item : ℕ) → IsMarked t.told.items item → IsTold lines (items_of t.loops.items) item
  pub marked : (item : ℕ) → IsTold lines (items_of t.loops.items) item → IsMarked t.told.items item
  pub all : (item : ℕ) → item < end → Needs lines item item → IsMarked t.told.items item

-- the loop of an item is told, and the items of its set that the search up from it found are marked
pub record TellsLoop (lines : List Line) (count item : ℕ) (way : Vec ℕ Global) (old new : Telling) : Type 0 where
  pub above : new.above ≡ old.above
  pub below : IsClear count new.below
  pub size : length new.told.items ≡ count
  pub kept : (other : ℕ) → IsMarked old.told.items other → IsMarked new.told.items other
  pub only : (other : ℕ) → IsMarked new.told.items other → IsMarked old.told.items other ⊎ (IsMet old.above other × ((down : List ℕ) × IsWay lines item down other))
  pub both : (other : ℕ) (down up : List ℕ) → IsMet old.above other → IsWay lines item down other → IsWay lines other up item → IsMarked new.told.items other
  pub loops : new.loops.items ≡ old.loops.items ++ (record { item = item; way = way } ∷ [])

-- the loop of an item is told, or the item does not need itself
abbrev pub TellsIfAny : List Line → ℕ → ℕ → Telling → Telling → Type 0
TellsIfAny lines count item old new =
    ((new ≡ old) × (Needs lines item item → ⊥)) ⊎ ((way : Vec ℕ Global) × IsWayBack lines item way.items × TellsLoop lines count item way old new)
