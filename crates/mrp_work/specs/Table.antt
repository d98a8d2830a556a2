-- Operations by the weeks of work centres that they load, as a map has them.
use Rattle.std.specs.Prelude.{ℕ, ◌==◌, ◌&&◌, ◌++◌, List, Option, Vec, filter, option_map}
use Rattle.std.specs.HashMap as hash
use Rattle.std.specs.HashMap.{HashMap}
use Rattle.mrp_work.specs.declared.order.Work.{Work}
use Rattle.mrp_work.specs.Work.{is_at}

-- what a map has of a week of a work centre
abbrev pub found_in : {V S : Type 0} → HashMap (ℕ × ℕ) (Vec Work V) S → ℕ → ℕ → Option (List Work)
found_in found centre week = option_map (λ works. works.items) (hash.get_by (λ place. (centre == place.0) && (week == place.1)) found)

-- what was found of a week of a work centre, with more operations, if they are of this week
abbrev pub added : Option (List Work) → ℕ → ℕ → List Work → Option (List Work)
added found centre week works = option_map (λ before. before ++ filter (is_at centre week) works) found
