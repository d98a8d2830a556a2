-- A walk up through parents.
use Rattle.std.specs.Prelude.{ℕ, ◌≡◌, ◌+◌, ◌*◌, ◌<◌, Bool, true, false, List, Option, Some, None, IfSome, length, sum_by, All}
use Rattle.mrp_loops.specs.declared.walk.Walk.{Walk}
use Rattle.mrp_loops.specs.Links.{place_at}

abbrev pub one_if_unseen : Bool → ℕ
one_if_unseen true = 0
one_if_unseen false = 1

-- the number of items that were not seen
abbrev pub unseen : List Bool → ℕ
unseen seen = sum_by one_if_unseen seen

-- how many lines of a list may still come
abbrev pub lines_left : Option ℕ → ℕ
lines_left None = 0
lines_left (Some place) = place + 1

-- the steps that a walk may still take
abbrev pub to_walk : Walk → ℕ
to_walk w = 2 * unseen w.seen.items + length w.stack.items + sum_by lines_left w.next.items

-- a walk over the first items, along the first lines
pub record IsWalk (count end : ℕ) (w : Walk) : Type 0 where
  pub seen_size : length w.seen.items ≡ count
  pub next_size : length w.next.items ≡ count
  pub stack : All (λ item. item < count) w.stack.items
  pub order : All (λ item. item < count) w.order.items
  pub next : (item : ℕ) → IfSome (place_at w.next.items item) (λ place. place < end)
