-- What each record has to itself, with the line of the first record that has it.
use Rattle.std.specs.Prelude.{ℕ, Bool, ◌&&◌, if◌then◌else◌, nat_eq, is_none, List, [], ◌∷◌, ◌++◌, Option}
use Rattle.std.specs.Cmp.Lexicographic.{pointwise}
use Rattle.std.specs.Map.{lookup}

-- a name, an order's name or the name again, and an operation's number or 0
abbrev pub Key : Type 0
Key = List ℕ × (List ℕ × ℕ)

abbrev pub Keys : Type 0
Keys = List (Key × ℕ)

abbrev pub same_key : Key → Key → Bool
same_key a b = pointwise nat_eq a.0 b.0 && (pointwise nat_eq a.1.0 b.1.0 && nat_eq a.1.1 b.1.1)

-- the line of the first record with a key
abbrev pub line_of : Keys → Key → Option ℕ
line_of keys key = lookup (same_key key) keys

-- with a key more, unless it is there
abbrev pub with_key : Keys → Key → ℕ → Keys
with_key keys key line = if is_none (line_of keys key) then keys ++ (key, line) ∷ [] else keys
