-- The columns of each table, by their names (profile).
use Rattle.std.specs.Prelude.{ℕ, List, [], ◌∷◌, length, codes}
use Rattle.mrp_rows.specs.declared.fault.Table.{Table}
use Rattle.mrp_rows.specs.declared.fault.Table.TheVariants as t

-- none for the bundle as a whole
abbrev pub columns_of : Table → List (List ℕ)
columns_of t.Calendar = codes "key" ∷ codes "value" ∷ []
columns_of t.Items = codes "item" ∷ codes "class" ∷ codes "lead" ∷ codes "scrap" ∷ codes "lot" ∷ codes "size" ∷ codes "safety" ∷ []
columns_of t.Centres = codes "centre" ∷ codes "minutes" ∷ []
columns_of t.Stock = codes "item" ∷ codes "onhand" ∷ []
columns_of t.Receipts = codes "item" ∷ codes "order" ∷ codes "date" ∷ codes "quantity" ∷ []
columns_of t.Bills = codes "parent" ∷ codes "component" ∷ codes "per" ∷ []
columns_of t.Routings = codes "item" ∷ codes "op" ∷ codes "centre" ∷ codes "setup" ∷ codes "run" ∷ codes "offset" ∷ []
columns_of t.Master = codes "item" ∷ codes "row" ∷ codes "date" ∷ codes "quantity" ∷ []
columns_of t.Script = codes "desk" ∷ codes "call" ∷ codes "item" ∷ codes "date" ∷ codes "quantity" ∷ codes "number" ∷ []
columns_of t.Bundle = []

-- a table as a text has it: the table, and the names of its columns
pub record Layout : Type 0 where
  pub table : Table
  pub columns : List (List ℕ)

-- a table's own layout
abbrev pub layout_of : Table → Layout
layout_of table = record { table = table; columns = columns_of table }

-- the columns of items that also have a minimum order quantity and an order multiple
abbrev pub stepped_columns : List (List ℕ)
stepped_columns = codes "item" ∷ codes "class" ∷ codes "lead" ∷ codes "scrap" ∷ codes "lot" ∷ codes "size" ∷ codes "safety" ∷ codes "least" ∷ codes "step" ∷ []

-- the layout of such items
abbrev pub stepped_layout : Layout
stepped_layout = record { table = t.Items; columns = stepped_columns }

-- how many cells each record has
abbrev pub width : Layout → ℕ
width layout = length layout.columns
