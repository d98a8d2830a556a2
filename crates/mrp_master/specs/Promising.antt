-- Cover, the greatest quantity and the least week, over any supply and any quantity due (profile).
use Rattle.std.specs.Prelude.{ℕ, ◌≤◌, ◌<◌, Option, Some, None}

-- up to each week no more is due than supplied
abbrev pub Covers : (ℕ → Type 0) → (ℕ → ℕ) → (ℕ → ℕ) → Type 0
Covers IsIn supplied due = (week : ℕ) → IsIn week → due week ≤ supplied week

-- the greatest quantity that fits
pub record IsGreatest (Fits : ℕ → Type 0) (quantity : ℕ) : Type 0 where
  pub fits : Fits quantity
  pub greatest : (more : ℕ) → Fits more → more ≤ quantity

-- the least week that has enough, or none
abbrev pub IsLeastWeek : (ℕ → Type 0) → (ℕ → Type 0) → Option ℕ → Type 0
IsLeastWeek IsIn HasEnough None = (week : ℕ) → IsIn week → ¬ HasEnough week
IsLeastWeek IsIn HasEnough (Some week) = IsIn week × HasEnough week × ((sooner : ℕ) → IsIn sooner → sooner < week → ¬ HasEnough sooner)
