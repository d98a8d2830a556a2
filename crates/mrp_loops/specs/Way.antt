-- The beginning of the shortest way back.
use Rattle.std.specs.Prelude.{ℕ, ◌≡◌, ◌+◌, ◌≤◌, ◌<◌, List, Option, Some, length}
use Rattle.mrp_loops.specs.declared.line.Line.{Line}
use Rattle.mrp_loops.specs.Needs.{IsWay}
use Rattle.mrp_loops.specs.Loops.{IsBefore}
use Rattle.mrp_loops.specs.Search.{far_at}

-- the first lines of the shortest way from an item back to it
pub record IsWayTo (lines : List Line) (far : List (Option ℕ)) (item : ℕ) (way : List ℕ) (bottom : ℕ) : Type 0 where
  pub some : 0 < length way
  pub leads : IsWay lines item way bottom
  pub left : ℕ
  pub is_far : far_at far bottom ≡ Some left
  pub fewest : (other : List ℕ) → 0 < length other → IsWay lines item other item → length way + left ≤ length other
  pub earliest : (other : List ℕ) → length other ≡ length way + left → IsWay lines item other item → IsBefore way other
