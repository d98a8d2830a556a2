-- A search up through parents.
use Rattle.std.specs.Prelude.{ℕ, ◌≡◌, ◌+◌, ◌<◌, ◌≤◌, Bool, true, false, List, [], ◌∷◌, ◌++◌, length, slice_index_or, slice_set}
use Rattle.mrp_bill.specs.declared.search.Met.{Met}
use Rattle.mrp_bill.specs.declared.search.Search.{Search}
use Rattle.mrp_bill.specs.Grouped.{IsListed}
use Rattle.mrp_bill.specs.Ranking.{unseen}

abbrev pub met_at : List Met → ℕ → Met
met_at met place = slice_index_or met place (record { item = 0; below = 0 })

abbrev pub item_at : List Met → ℕ → ℕ
item_at met place = (met_at met place).item

-- the place below a place
abbrev pub IsBelow : List Met → ℕ → ℕ → Type 0
IsBelow met place below = (0 < place) × (below ≡ (met_at met place).below)

-- whether an item was seen
abbrev pub IsSeen : List Bool → ℕ → Type 0
IsSeen seen item = slice_index_or seen item false ≡ true

-- an item is found
pub record Meets (old new : Search) (item below : ℕ) : Type 0 where
  pub met : new.met.items ≡ old.met.items ++ (record { item = item; below = below } ∷ [])
  pub seen : new.seen.items ≡ slice_set old.seen.items item true

-- the items found are those seen, and each but the first is a parent of the one below it
pub record IsSearch (parents : List (List ℕ)) (s : Search) : Type 0 where
  pub size : length s.seen.items ≡ length parents
  pub some : 0 < length s.met.items
  pub met : (k : ℕ) → k < length s.met.items → IsSeen s.seen.items (item_at s.met.items k)
  pub seen : (i : ℕ) → IsSeen s.seen.items i → (k : ℕ) × (k < length s.met.items) × (item_at s.met.items k ≡ i)
  pub below : (k : ℕ) → 0 < k → k < length s.met.items
      → ((met_at s.met.items k).below < k) × IsListed parents (item_at s.met.items k) (item_at s.met.items (met_at s.met.items k).below)

-- what was found stays
pub record Extends (old new : Search) : Type 0 where
  pub longer : length old.met.items ≤ length new.met.items
  pub kept : (k : ℕ) → k < length old.met.items → met_at new.met.items k ≡ met_at old.met.items k
  pub work : unseen new.seen.items + length new.met.items ≡ unseen old.seen.items + length old.met.items
