-- The weeks that supplies cover, as far as a walk over the supplies has come.
use Rattle.std.specs.Prelude.{ℕ, ◌≡◌, ◌≤◌, ◌<◌, ◌+◌, ◌^◌, ◌-◌, min, if◌then◌else◌, List, length}
use Rattle.mrp_phase.specs.Weeks.{sum_to}
use Rattle.mrp_notes.specs.declared.covered.Covered.{Covered}
use Rattle.mrp_notes.specs.Release.{is_fixed}
use Rattle.mrp_item.specs.declared.supplies.Supply.{Supply}

-- what is supplied covers requirements and safety stock up to each of the first weeks
pub record IsCovered (gross : List ℕ) (safety : ℕ) (c : Covered) : Type 0 where
  pub within : c.weeks ≤ length gross
  pub required : c.required ≡ sum_to gross c.weeks
  pub covered : (week : ℕ) → 0 < week → week ≤ c.weeks → sum_to gross week + safety ≤ c.supplied

-- what is supplied after a supply; the sum saturates at the greatest number
abbrev pub with_supply : ℕ → Supply → ℕ
with_supply supplied x = if is_fixed x then min (supplied + x.quantity) (2 ^ 64 - 1) else supplied
