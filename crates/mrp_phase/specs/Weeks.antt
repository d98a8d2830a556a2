-- Rows of the weeks of a horizon, and sums over them. Weeks count from 1 (Orlicky: time phasing).
use Rattle.std.specs.Prelude.{ℕ, zero, suc, List, map, take, sum, max, fold, slice_index, slice_set}
use Rattle.std.specs.List.{range_with_len}

-- the weeks of a horizon: from 1 to the last
abbrev pub weeks : ℕ → List ℕ
weeks horizon = range_with_len 1 horizon

-- the row that has f of each week
unfoldable pub row : {V : Type 0} → ℕ → (ℕ → V) → List V
row horizon f = map f (weeks horizon)

-- a row's value in a week, and 0 before the first
unfoldable pub in_week : List ℕ → ℕ → ℕ
in_week xs zero = 0
in_week xs (suc before) = slice_index xs before

-- a row with the quantity of a week replaced
unfoldable pub with_week : List ℕ → ℕ → ℕ → List ℕ
with_week xs zero quantity = xs
with_week xs (suc before) quantity = slice_set xs before quantity

-- the sum of a row up to a week
abbrev pub sum_to : List ℕ → ℕ → ℕ
sum_to xs week = sum (take week xs)

-- the greatest of 0 and f of the weeks up to one
unfoldable pub greatest_to : (ℕ → ℕ) → ℕ → ℕ
greatest_to f week = fold max 0 (map f (weeks week))
