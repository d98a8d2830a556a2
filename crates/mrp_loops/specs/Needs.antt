-- What items need: ways down along bill lines (Orlicky: product structure).
use Rattle.std.specs.Prelude.{ℕ, ◌≡◌, ◌≤◌, ◌<◌, List, [], ◌∷◌, length, All, slice_index_or}
use Rattle.mrp_loops.specs.declared.line.Line.{Line}

-- each line's parent and component are among the first items
abbrev pub AreWithin : ℕ → List Line → Type 0
AreWithin count lines = All (λ line. (line.parent < count) × (line.component < count)) lines

-- the line at a place of the bill
abbrev pub line_at : List Line → ℕ → Line
line_at lines place = slice_index_or lines place (record { parent = 0; component = 0 })

-- the lines at these places lead from one item down to another: each line's component is the next line's parent
abbrev pub IsWay : List Line → ℕ → List ℕ → ℕ → Type 0
IsWay lines top [] bottom = top ≡ bottom
IsWay lines top (place ∷ rest) bottom = (place < length lines) × ((line_at lines place).parent ≡ top) × IsWay lines (line_at lines place).component rest bottom

-- an item needs another: a way of at least one line leads down to it
abbrev pub Needs : List Line → ℕ → ℕ → Type 0
Needs lines item other = (way : List ℕ) × (0 < length way) × IsWay lines item way other

-- two items need one another
abbrev pub NeedEachOther : List Line → ℕ → ℕ → Type 0
NeedEachOther lines item other = Needs lines item other × Needs lines other item

-- the first of the items that need one another with it, and it needs itself
pub record IsFirst (lines : List Line) (item : ℕ) : Type 0 where
  pub itself : Needs lines item item
  pub first : (other : ℕ) → NeedEachOther lines item other → item ≤ other
