-- What is kept of a record: its first cells, how many it has, and whether the others are empty (profile).
use Rattle.std.specs.Prelude.{ℕ, ◌==◌, Bool, true, List, [], drop, length, take}
use Rattle.std.specs.List.{list_all}

abbrev pub is_empty : List ℕ → Bool
is_empty cell = length cell == 0

abbrev pub are_empty : List (List ℕ) → Bool
are_empty cells = list_all is_empty cells

pub record Shown : Type 0 where
  pub first : List (List ℕ)
  pub count : ℕ
  pub are_others_empty : Bool

-- of a record with these cells, of which so many are kept at most
abbrev pub shown_of : ℕ → List (List ℕ) → Shown
shown_of most cells = record { first = take most cells; count = length cells; are_others_empty = are_empty (drop most cells) }

-- of a record without cells
abbrev pub nothing_shown : Shown
nothing_shown = record { first = []; count = 0; are_others_empty = true }
