-- The line to an item from the nearest parent.
use Rattle.std.specs.Prelude.{ℕ, ◌≡◌, ◌⊎◌, ◌≤◌, ◌<◌, ⊤, List, Option, Some, None, length}
use Rattle.mrp_loops.specs.declared.line.Line.{Line}
use Rattle.mrp_loops.specs.declared.best.Best.{Best}
use Rattle.mrp_loops.specs.Needs.{line_at}
use Rattle.mrp_loops.specs.Search.{far_at}

-- the best line so far is as good as another one: nearer, or as near and not later
abbrev pub Beats : Option Best → Option ℕ → ℕ → Type 0
Beats best None place = ⊤
Beats None (Some far) place = ⊥
Beats (Some best) (Some far) place = (best.far < far) ⊎ ((best.far ≡ far) × (best.place ≤ place))

-- the better one of the best line so far and an earlier one
pub record IsBetter (best : Option Best) (far : Option ℕ) (place : ℕ) (result : Option Best) : Type 0 where
  pub own : Beats result far place
  pub others : (other : Option ℕ) (k : ℕ) → place < k → Beats best other k → Beats result other k
  pub one : (result ≡ best) ⊎ ((d : ℕ) × (far ≡ Some d) × (result ≡ Some (record { far = d; place = place })))

-- no line leads to an item from a parent that was found
abbrev pub HasNoLine : List Line → List (Option ℕ) → ℕ → Type 0
HasNoLine lines far item = (k d : ℕ) → k < length lines → (line_at lines k).component ≡ item → far_at far (line_at lines k).parent ≡ Some d → ⊥

-- the line to an item whose parent is nearest, and of several the earliest
pub record IsBestLine (lines : List Line) (far : List (Option ℕ)) (item place : ℕ) : Type 0 where
  pub inside : place < length lines
  pub to_item : (line_at lines place).component ≡ item
  pub least : ℕ
  pub is_far : far_at far (line_at lines place).parent ≡ Some least
  pub best : (k d : ℕ) → k < length lines → (line_at lines k).component ≡ item → far_at far (line_at lines k).parent ≡ Some d → (least < d) ⊎ ((least ≡ d) × (place ≤ k))
