-- What a board's state keeps besides what contracts see.
use Rattle.std.specs.Prelude.{ℕ, ◌≡◌, ◌<◌, cond, not, true, List, length, Option, Some, None, is_some, sum_by}
use Rattle.mrp_item.specs.Inputs.{count}
use Rattle.mrp_board.specs.BoardState.{AreOwn, BoardState, has_stored, parents_at, worker_of}
use Rattle.mrp_board.specs.Queue.{one_if, waits_for}

-- how many parents of an item are not stored
abbrev pub unfinished : BoardState → ℕ → ℕ
unfinished b item = sum_by (λ p. one_if (not (has_stored b p))) (parents_at b item)

-- there is a place for each item; the queue has those that were not handed out, each with the number of its parents that are
-- not stored; and the parents of those that were handed out are stored
pub record KeepsBoard (b : BoardState) (waits : List (Option ℕ)) : Type 0 where
  pub out_size : length b.out ≡ count b.inputs
  pub own : AreOwn b.inputs b.outcomes
  pub size : length waits ≡ count b.inputs
  pub waiting : (item : ℕ) → item < count b.inputs → waits_for waits item ≡ cond (is_some (worker_of b item)) None (Some (unfinished b item))
  pub fed : (item : ℕ) → is_some (worker_of b item) ≡ true → unfinished b item ≡ 0
