-- The late orders, in falling lateness.
use Rattle.std.specs.Prelude.{ℕ, ◌≡◌, ◌≤◌, ◌<◌, List, length, slice_index_or}
use Rattle.mrp_risk.specs.declared.late.Late.{Late}
use Rattle.mrp_risk.specs.Chains.{weeks_late, ComesFirst}

-- the row at a place
abbrev pub row_at : List Late → ℕ → Late
row_at rows place = slice_index_or rows place (record { order = 0; weeks = 0 })

-- the rows are the late ones of the first orders
pub record AreRowsTo (lateness : List ℕ) (end : ℕ) (rows : List Late) : Type 0 where
  pub weeks : (k : ℕ) → k < length rows → (row_at rows k).weeks ≡ weeks_late lateness (row_at rows k).order
  pub late : (k : ℕ) → k < length rows → (0 < (row_at rows k).weeks) × ((row_at rows k).order < end)
  pub all : (order : ℕ) → order < end → 0 < weeks_late lateness order → (k : ℕ) × (k < length rows) × ((row_at rows k).order ≡ order)

-- the rows are the late orders by their numbers
pub record AreLateRows (lateness : List ℕ) (rows : List Late) : Type 0 where
  pub each : AreRowsTo lateness (length lateness) rows
  pub rising : (i j : ℕ) → i ≤ j → j < length rows → (row_at rows i).order ≤ (row_at rows j).order

-- the rows are the late orders, the latest first, and of equally late ones the one with the lesser number
pub record AreLateOrders (lateness : List ℕ) (rows : List Late) : Type 0 where
  pub each : AreRowsTo lateness (length lateness) rows
  pub falling : (i j : ℕ) → i ≤ j → j < length rows → ComesFirst lateness (row_at rows i).order (row_at rows j).order
