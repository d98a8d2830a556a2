-- The lines to each item, as lists from the last one to the first.
use Rattle.std.specs.Prelude.{ℕ, ◌≡◌, ◌≢◌, ◌<◌, List, Option, Some, None, length, slice_index_or}
use Rattle.mrp_loops.specs.declared.line.Line.{Line}
use Rattle.mrp_loops.specs.declared.links.Links.{Links}
use Rattle.mrp_loops.specs.Needs.{AreWithin, line_at}

-- a line whose parent and component are exchanged
abbrev pub turned : Line → Line
turned line = record { parent = line.component; component = line.parent }

-- the place that a list has for an item, or for a line
abbrev pub place_at : List (Option ℕ) → ℕ → Option ℕ
place_at places i = slice_index_or places i None

-- a place is that of the last line to an item among the first lines, or there is none
abbrev pub IsLastTo : List Line → ℕ → ℕ → Option ℕ → Type 0
IsLastTo lines item end None = (k : ℕ) → k < end → (line_at lines k).component ≢ item
IsLastTo lines item end (Some place) = (place < end) × ((line_at lines place).component ≡ item) × ((k : ℕ) → place < k → k < end → (line_at lines k).component ≢ item)

-- the lists of the first lines
pub record AreListsTo (count : ℕ) (lines : List Line) (end : ℕ) (last previous : List (Option ℕ)) : Type 0 where
  pub last_size : length last ≡ count
  pub previous_size : length previous ≡ end
  pub of_items : (item : ℕ) → item < count → IsLastTo lines item end (place_at last item)
  pub of_lines : (k : ℕ) → k < end → IsLastTo lines (line_at lines k).component k (place_at previous k)

-- lines among the first items, and the lists of all of them
pub record AreLinks (count : ℕ) (links : Links) : Type 0 where
  pub within : AreWithin count links.lines.items
  pub lists : AreListsTo count links.lines.items (length links.lines.items) links.last.items links.previous.items
