-- A pass that gives ranks.
use Rattle.std.specs.Prelude.{ℕ, ◌≡◌, ◌+◌, ◌<◌, Bool, true, false, List, length, sum_by, All}
use Rattle.mrp_bill.specs.declared.ranks.Ranking.{Ranking}

abbrev pub one_if_unseen : Bool → ℕ
one_if_unseen true = 0
one_if_unseen false = 1

-- the number of items that were not seen
abbrev pub unseen : List Bool → ℕ
unseen seen = sum_by one_if_unseen seen

-- the items not seen, and those on the stack
abbrev pub to_do : Ranking → ℕ
to_do r = unseen r.seen.items + length r.stack.items

pub record IsRanking (r : Ranking) : Type 0 where
  pub size : length r.ranks.items ≡ length r.seen.items
  pub within : All (λ item. item < length r.seen.items) r.stack.items
