-- Names, each with the class that its first record gives it.
use Rattle.std.specs.Prelude.{ℕ, Bool, if◌then◌else◌, nat_eq, List, [], ◌∷◌, ◌++◌, map, position, Option, Some, None, is_some, option_map}
use Rattle.std.specs.List.{slice_get}
use Rattle.std.specs.Cmp.Lexicographic.{pointwise}
use Rattle.std.specs.Map.{lookup}
use Rattle.mrp_tables.specs.declared.item.Class.{Class}

abbrev pub Names : Type 0
Names = List (List ℕ × Option Class)

-- a name is one of them
abbrev pub is_among : Names → List ℕ → Bool
is_among names name = is_some (lookup (pointwise nat_eq name) names)

-- the name at a place, if there is one
abbrev pub name_at : Names → ℕ → Option (List ℕ)
name_at names place = option_map (λ entry. entry.0) (slice_get names place)

-- the place of a name, where it is known
abbrev pub place_among : Names → List ℕ → Option ℕ
place_among names name = position (pointwise nat_eq name) (map (λ entry. entry.0) names)

-- what is found, if it is a class
abbrev pub joined : {X : Type 0} → Option (Option X) → Option X
joined (Some x) = x
joined None = None

-- the class of a name, where it is known
abbrev pub class_among : Names → List ℕ → Option Class
class_among names name = joined (lookup (pointwise nat_eq name) names)

-- with a name more, unless it is there
abbrev pub with_name : Names → List ℕ → Option Class → Names
with_name names name class = if is_among names name then names else names ++ (name, class) ∷ []
