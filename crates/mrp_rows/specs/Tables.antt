-- The tables, and their places (profile).
use Rattle.std.specs.Prelude.{ℕ}
use Rattle.mrp_rows.specs.declared.fault.Table.{Table}
use Rattle.mrp_rows.specs.declared.fault.Table.TheVariants as t

-- a table's place in the order of faults, from 0; the bundle comes last
abbrev pub table_index : Table → ℕ
table_index t.Calendar = 0
table_index t.Items = 1
table_index t.Centres = 2
table_index t.Stock = 3
table_index t.Receipts = 4
table_index t.Bills = 5
table_index t.Routings = 6
table_index t.Master = 7
table_index t.Script = 8
table_index t.Bundle = 9
