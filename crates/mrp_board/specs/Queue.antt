-- The items that were not handed out yet, each with the number of its parents that are not stored.
use Rattle.std.specs.Prelude.{ℕ, ◌≡◌, ◌-◌, ◌==◌, ◌≤◌, Bool, false, cond, List, length, Option, Some, None, is_some, sum_by}
use Rattle.std.specs.List.{range_with_len, slice_index_or}
use Rattle.std.specs.Ordering.{nat_cmp}
use Rattle.std.specs.BinaryHeap.{IsHeap}
use Rattle.std.specs.declared.cmp.Reverse.{Reverse}

abbrev pub waits_for : List (Option ℕ) → ℕ → Option ℕ
waits_for waits item = slice_index_or waits item None

abbrev pub waits_for_none : Option ℕ → Bool
waits_for_none None = false
waits_for_none (Some parents) = parents == 0

-- an item was not handed out, and waits for no parent
abbrev pub is_due : List (Option ℕ) → ℕ → Bool
is_due waits item = waits_for_none (waits_for waits item)

-- the items, by their places
abbrev pub queue_places : List (Option ℕ) → List ℕ
queue_places waits = range_with_len 0 (length waits)

-- an item waits for so many parents less
abbrev pub less : ℕ → Option ℕ → Option ℕ
less n None = None
less n (Some parents) = Some (parents - n)

-- 1 where a test holds, and 0 elsewhere
abbrev pub one_if : Bool → ℕ
one_if b = cond b 1 0

-- 1 for an item, and 0 for each other
abbrev pub one_at : ℕ → ℕ → ℕ
one_at item i = one_if (i == item)

-- how often an item is in a list
abbrev pub occurrences : ℕ → List ℕ → ℕ
occurrences item items = sum_by (one_at item) items

-- how often an item is in a heap that has the least item on top
abbrev pub in_heap : ℕ → List (Reverse ℕ) → ℕ
in_heap item due = sum_by (λ r. one_at item r.0) due

-- the heap has each item that is due once, and room for all items; and the items that were not handed out are counted
pub record KeepsQueue (waits : List (Option ℕ)) (due : List (Reverse ℕ)) (room left : ℕ) : Type 0 where
  pub ordered : IsHeap (λ x y. nat_cmp y.0 x.0) due
  pub once : (item : ℕ) → in_heap item due ≡ one_if (is_due waits item)
  pub roomy : length waits ≤ room
  pub counted : left ≡ sum_by (λ w. one_if (is_some w)) waits
