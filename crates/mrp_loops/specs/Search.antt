-- A search up for the items from which lines lead to an item, the nearest first.
use Rattle.std.specs.Prelude.{ℕ, ◌≡◌, ◌⊎◌, ◌+◌, ◌≤◌, ◌<◌, Bool, true, false, List, [], ◌∷◌, ◌++◌, Option, Some, None, length, sum_by, slice_index, slice_index_or, slice_set}
use Rattle.mrp_loops.specs.declared.line.Line.{Line}
use Rattle.mrp_loops.specs.declared.search.Met.{Met}
use Rattle.mrp_loops.specs.declared.search.Search.{Search}
use Rattle.mrp_loops.specs.Needs.{IsWay, line_at}

-- how far an item is, if it was found
abbrev pub far_at : List (Option ℕ) → ℕ → Option ℕ
far_at far item = slice_index_or far item None

abbrev pub met_at : List Met → ℕ → Met
met_at met k = slice_index_or met k (record { item = 0; far = 0 })

-- an item was found
abbrev pub IsMet : Search → ℕ → Type 0
IsMet s item = (far : ℕ) × (far_at s.far.items item ≡ Some far)

abbrev pub one_if_unmet : Option ℕ → ℕ
one_if_unmet None = 1
one_if_unmet (Some far) = 0

-- the number of items that were not found
abbrev pub unmet : List (Option ℕ) → ℕ
unmet far = sum_by one_if_unmet far

-- nothing is found
pub record IsClear (count : ℕ) (s : Search) : Type 0 where
  pub size : length s.far.items ≡ count
  pub far : (item : ℕ) → far_at s.far.items item ≡ None
  pub unmet : unmet s.far.items ≡ count
  pub met : s.met.items ≡ []

-- the items found are listed
pub record AreListed (s : Search) : Type 0 where
  pub within : (k : ℕ) → k < length s.met.items → (met_at s.met.items k).item < length s.far.items
  pub listed : (item far : ℕ) → far_at s.far.items item ≡ Some far → (k : ℕ) × (k < length s.met.items) × ((met_at s.met.items k).item ≡ item)

-- the parent in a line has not the rank, or is at most one line farther than the line's component
abbrev pub IsPassed : List Line → List ℕ → ℕ → List (Option ℕ) → ℕ → ℕ → Type 0
IsPassed lines ranks from far most place =
    slice_index ranks (line_at lines place).parent ≡ slice_index ranks from → (d : ℕ) × (far_at far (line_at lines place).parent ≡ Some d) × (d ≤ most)

-- the lines to the items found first were passed
pub record IsSearch (lines : List Line) (ranks : List ℕ) (from next : ℕ) (s : Search) : Type 0 where
  pub size : length s.far.items ≡ length ranks
  pub work : unmet s.far.items + length s.met.items ≡ length s.far.items
  pub some : 0 < length s.met.items
  pub first : met_at s.met.items 0 ≡ record { item = from; far = 0 }
  pub met : (k : ℕ) → k < length s.met.items → far_at s.far.items (met_at s.met.items k).item ≡ Some (met_at s.met.items k).far
  pub listed : (item far : ℕ) → far_at s.far.items item ≡ Some far → (k : ℕ) × (k < length s.met.items) × ((met_at s.met.items k).item ≡ item)
  pub ways : (k : ℕ) → k < length s.met.items → (way : List ℕ) × (length way ≡ (met_at s.met.items k).far) × IsWay lines (met_at s.met.items k).item way from
  pub small : (k : ℕ) → k < length s.met.items → (met_at s.met.items k).far ≤ k
  pub rising : (j k : ℕ) → j ≤ k → k < length s.met.items → (met_at s.met.items j).far ≤ (met_at s.met.items k).far
  pub span : (k : ℕ) → k < length s.met.items → next < length s.met.items → (met_at s.met.items k).far ≤ (met_at s.met.items next).far + 1
  pub passed : (k place : ℕ) → k < next → place < length lines → (line_at lines place).component ≡ (met_at s.met.items k).item
      → IsPassed lines ranks from s.far.items ((met_at s.met.items k).far + 1) place

-- the lines to all items found were passed
abbrev pub IsSearched : List Line → List ℕ → ℕ → Search → Type 0
IsSearched lines ranks from s = IsSearch lines ranks from (length s.met.items) s

-- an item is found
pub record Meets (old new : Search) (item d : ℕ) : Type 0 where
  pub far : new.far.items ≡ slice_set old.far.items item (Some d)
  pub met : new.met.items ≡ old.met.items ++ (record { item = item; far = d } ∷ [])

-- an item is found if it has the rank and was not found before
abbrev pub MeetsNew : List ℕ → ℕ → Search → Search → ℕ → ℕ → Type 0
MeetsNew ranks rank old new item d =
    ((new ≡ old) × (slice_index ranks item ≡ rank → IsMet old item)) ⊎ ((far_at old.far.items item ≡ None) × Meets old new item d)

-- what was found stays
pub record Extends (old new : Search) : Type 0 where
  pub longer : length old.met.items ≤ length new.met.items
  pub kept : (k : ℕ) → k < length old.met.items → met_at new.met.items k ≡ met_at old.met.items k

-- how far items are from which lines lead to an item, as far as a way leads from it to them
pub record AreNearest (lines : List Line) (item : ℕ) (far : List (Option ℕ)) : Type 0 where
  pub first : far_at far item ≡ Some 0
  pub ways : (other d : ℕ) → far_at far other ≡ Some d → (way : List ℕ) × (length way ≡ d) × IsWay lines other way item
  pub small : (other d : ℕ) → far_at far other ≡ Some d → d < length far
  pub near : (other : ℕ) (way back : List ℕ) → IsWay lines other way item → IsWay lines item back other → (d : ℕ) × (far_at far other ≡ Some d) × (d ≤ length way)

abbrev pub IsMarked : List Bool → ℕ → Type 0
IsMarked marks item = slice_index_or marks item false ≡ true

-- the items that both searches found are marked, as far as they are among the first that the one found
pub record MarksBothTo (end : ℕ) (one other : Search) (old new : List Bool) : Type 0 where
  pub size : length new ≡ length old
  pub kept : (item : ℕ) → IsMarked old item → IsMarked new item
  pub both : (k : ℕ) → k < end → IsMet other (met_at one.met.items k).item → IsMarked new (met_at one.met.items k).item
  pub only : (item : ℕ) → IsMarked new item → IsMarked old item ⊎ ((k : ℕ) × (k < length one.met.items) × ((met_at one.met.items k).item ≡ item) × IsMet other item)

abbrev pub MarksBoth : Search → Search → List Bool → List Bool → Type 0
MarksBoth one other old new = MarksBothTo (length one.met.items) one other old new
