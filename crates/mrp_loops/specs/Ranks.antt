-- Ranks of items.
use Rattle.std.specs.Prelude.{ℕ, ◌≡◌, ◌+◌, ◌≤◌, ◌<◌, List, length, All, slice_index}
use Rattle.mrp_loops.specs.declared.line.Line.{Line}
use Rattle.mrp_loops.specs.declared.ranks.Ranking.{Ranking}
use Rattle.mrp_loops.specs.Needs.{line_at}
use Rattle.mrp_loops.specs.Walk.{unseen}

-- no rank rises from a line's parent to its component
abbrev pub NeverRise : List Line → List ℕ → Type 0
NeverRise lines ranks = (k : ℕ) → k < length lines → slice_index ranks (line_at lines k).component ≤ slice_index ranks (line_at lines k).parent

-- each line's component has a later place than its parent
abbrev pub AlwaysRise : List Line → List ℕ → Type 0
AlwaysRise lines places = (k : ℕ) → k < length lines → slice_index places (line_at lines k).parent < slice_index places (line_at lines k).component

-- the items not seen, and those on the stack
abbrev pub to_rank : Ranking → ℕ
to_rank r = unseen r.seen.items + length r.stack.items

-- ranks of the first items
pub record IsRanking (count : ℕ) (r : Ranking) : Type 0 where
  pub seen_size : length r.seen.items ≡ count
  pub ranks_size : length r.ranks.items ≡ count
  pub stack : All (λ item. item < count) r.stack.items
