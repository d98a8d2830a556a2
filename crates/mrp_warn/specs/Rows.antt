-- Rows that are odd, and what is looked up for them: equal rows before one, how often an item is named, values that are all small.
use Rattle.std.specs.Prelude.{ℕ, ◌==◌, Bool, false, nat_le, nat_lt, if◌then◌else◌, List, count_by, map, position, take, Option, Some, None}
use Rattle.std.specs.List.{enumerate_from, filter_map, list_any, range_with_len}
use Rattle.mrp_warn.specs.declared.oddity.Oddity.{Oddity}
use Rattle.mrp_warn.specs.declared.oddity.Warning.{Warning}

-- what is odd about the record at a place, if anything is
abbrev pub at_place : ℕ → Option Oddity → Option Warning
at_place place None = None
at_place place (Some odd) = Some (record { place = Some place; oddity = odd })

-- the warnings of those rows of a table that are odd, in order
abbrev pub told : {X : Type 0} → (ℕ → X → Option Oddity) → List X → List Warning
told odd rows = filter_map (λ r. at_place r.0 (odd r.0 r.1)) (enumerate_from 0 rows)

-- for each of several keys the place of the first one before it that equals it, if there is one
abbrev pub earlier : {K : Type 0} → (K → K → Bool) → List K → List (Option ℕ)
earlier eq keys = map (λ r. position (eq r.1) (take r.0 keys)) (enumerate_from 0 keys)

-- how often a place is named
abbrev pub times : List ℕ → ℕ → ℕ
times named place = count_by (λ p. p == place) named

-- the same of each place
abbrev pub tally : ℕ → List ℕ → List ℕ
tally count named = map (times named) (range_with_len 0 count)

-- the place of the first value that is not below this one, where none is above that one
abbrev pub first_likely : ℕ → ℕ → List ℕ → Option ℕ
first_likely least most values = if list_any (nat_lt most) values then None else position (nat_le least) values

abbrev pub is_at : Option ℕ → ℕ → Bool
is_at None place = false
is_at (Some own) place = own == place
