-- What a record and a cursor show (profile).
use Rattle.std.specs.Prelude.{ℕ, Bool, List}
use Rattle.mrp_rows.specs.declared.fault.Table.{Table}
use Rattle.mrp_rows.specs.Columns.{Layout}

-- a table's record, and its number in the table: 0 for the header, the others from 1
pub record Cells : Type 0 where
  pub table : Table
  pub number : ℕ
  pub cells : List (List ℕ)

-- the remaining records of a table, the number of the first, and whether the reading is over: its end or a refusal was returned
pub record Left : Type 0 where
  pub layout : Layout
  pub number : ℕ
  pub left : List (List (List ℕ))
  pub is_over : Bool
