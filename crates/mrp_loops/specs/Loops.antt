-- The loops of a bill, and the shortest ways back.
use Rattle.std.specs.Prelude.{ℕ, ◌≡◌, ◌≤◌, ◌<◌, ◌⊎◌, ⊤, List, [], ◌∷◌, length, map, All, slice_index}
use Rattle.std.specs.List.{Contains}
use Rattle.mrp_loops.specs.declared.line.Line.{Line}
use Rattle.mrp_loops.specs.declared.line.Loop.{Loop}
use Rattle.mrp_loops.specs.Needs.{IsWay, NeedEachOther}

-- where two lists of places differ first, the first list has the earlier place, or it ends before they differ
abbrev pub IsBefore : List ℕ → List ℕ → Type 0
IsBefore [] other = ⊤
IsBefore (place ∷ rest) [] = ⊥
IsBefore (place ∷ rest) (another ∷ others) = (place < another) ⊎ ((place ≡ another) × IsBefore rest others)

-- the way back from an item to itself with the fewest lines, and of several the one whose first differing line is earlier
pub record IsWayBack (lines : List Line) (item : ℕ) (way : List ℕ) : Type 0 where
  pub some : 0 < length way
  pub leads : IsWay lines item way item
  pub fewest : (other : List ℕ) → 0 < length other → IsWay lines item other item → length way ≤ length other
  pub earliest : (other : List ℕ) → length other ≡ length way → IsWay lines item other item → IsBefore way other

-- the items of loops
abbrev pub items_of : List Loop → List ℕ
items_of loops = map (λ told. told.item) loops

-- the items rise
abbrev pub AreRising : List ℕ → Type 0
AreRising items = (j k : ℕ) → j < k → k < length items → slice_index items j < slice_index items k

-- an item is in the set of one of these items: the two need one another
abbrev pub IsTold : List Line → List ℕ → ℕ → Type 0
IsTold lines firsts item = (first : ℕ) × Contains firsts first × NeedEachOther lines item first

-- the item is among the first items, and the places of the way are those of the first lines
abbrev pub IsWithin : ℕ → ℕ → Loop → Type 0
IsWithin count end told = (told.item < count) × All (λ place. place < end) told.way.items
