-- What warnings are told of (profile).
use Rattle.std.specs.Prelude.{ℕ, List}
use Rattle.mrp_tables.specs.Tables.{Tables}
use Rattle.mrp_book.specs.Standing.{History}

-- accepted tables; the history that answers their script in row order; and of their texts what the tables don't keep: the sizes
-- in the items' records, and the place of the calendar's record of workdays, from 0
pub record Inspected : Type 0 where
  pub tables : Tables
  pub history : History
  pub sizes : List ℕ
  pub workdays : ℕ
