-- Which known name another equals but for capitals.
use Rattle.std.specs.Prelude.{ℕ, ◌≡◌, Bool, if◌then◌else◌, List, [], ◌∷◌, ◌++◌, map, nat_eq, Option, Some, None, is_some, option_and_then}
use Rattle.std.specs.Char.{to_ascii_lowercase}
use Rattle.std.specs.Cmp.Lexicographic.{pointwise}
use Rattle.std.specs.Map.{lookup}
use Rattle.mrp_survey.specs.Names.{Names}

-- a name in lower case
abbrev pub lowered : List ℕ → List ℕ
lowered name = map to_ascii_lowercase name

-- names are equal but for capitals
abbrev pub are_alike : List ℕ → List ℕ → Bool
are_alike name other = pointwise nat_eq (lowered name) (lowered other)

-- the first known name that a name equals but for capitals
abbrev pub first_like : Names → List ℕ → Option (List ℕ)
first_like [] name = None
first_like (known ∷ names) name = if are_alike name known.0 then Some known.0 else first_like names name

-- the same where the names are known
abbrev pub like_among : Option Names → List ℕ → Option (List ℕ)
like_among names name = option_and_then (λ own. first_like own name) names

-- names, each under its name in lower case
abbrev pub Firsts : Type 0
Firsts = List (List ℕ × List ℕ)

-- with a name more, unless one is there that it equals but for capitals
abbrev pub with_first : Firsts → List ℕ → Firsts
with_first firsts name = if is_some (lookup (pointwise nat_eq (lowered name)) firsts) then firsts else firsts ++ (lowered name, name) ∷ []

-- under each name in lower case is the first of the known names that it equals but for capitals
abbrev pub HasFirsts : Names → Firsts → Type 0
HasFirsts names firsts = (name : List ℕ) → lookup (pointwise nat_eq (lowered name)) firsts ≡ first_like names name
