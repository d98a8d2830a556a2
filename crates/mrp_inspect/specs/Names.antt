-- Other names under which a table's file may be there (profile).
use Rattle.std.specs.Prelude.{ℕ, List, [], ◌∷◌, ◌++◌, codes}
use Rattle.mrp_rows.specs.FaultText.{table_name}
use Rattle.mrp_rows.specs.declared.fault.Table.{Table}
use Rattle.mrp_rows.specs.declared.fault.Table.TheVariants as t
use Rattle.mrp_inspect.specs.declared.names.Naming.{Naming}
use Rattle.mrp_inspect.specs.declared.names.Naming.TheVariants.{Capital, Capitals, AllCapitals, CapitalAndEnding, CapitalEnding, Twice, TextBehind, Text, Workbook}

-- a table's name with a capital
abbrev pub capital_name : Table → List ℕ
capital_name t.Calendar = codes "Calendar"
capital_name t.Items = codes "Items"
capital_name t.Centres = codes "Centres"
capital_name t.Stock = codes "Stock"
capital_name t.Receipts = codes "Receipts"
capital_name t.Bills = codes "Bills"
capital_name t.Routings = codes "Routings"
capital_name t.Master = codes "Master"
capital_name t.Script = codes "Script"
capital_name t.Bundle = codes "Bundle"

-- the same in capitals
abbrev pub name_in_capitals : Table → List ℕ
name_in_capitals t.Calendar = codes "CALENDAR"
name_in_capitals t.Items = codes "ITEMS"
name_in_capitals t.Centres = codes "CENTRES"
name_in_capitals t.Stock = codes "STOCK"
name_in_capitals t.Receipts = codes "RECEIPTS"
name_in_capitals t.Bills = codes "BILLS"
name_in_capitals t.Routings = codes "ROUTINGS"
name_in_capitals t.Master = codes "MASTER"
name_in_capitals t.Script = codes "SCRIPT"
name_in_capitals t.Bundle = codes "BUNDLE"

-- the other names, in the order in which they are looked for
abbrev pub all_namings : List Naming
all_namings = Capital ∷ Capitals ∷ AllCapitals ∷ CapitalAndEnding ∷ CapitalEnding ∷ Twice ∷ TextBehind ∷ Text ∷ Workbook ∷ []

abbrev pub stem_of : Table → Naming → List ℕ
stem_of table Capital = capital_name table
stem_of table Capitals = name_in_capitals table
stem_of table AllCapitals = name_in_capitals table
stem_of table CapitalAndEnding = capital_name table
stem_of table CapitalEnding = table_name table
stem_of table Twice = table_name table
stem_of table TextBehind = table_name table
stem_of table Text = table_name table
stem_of table Workbook = table_name table

abbrev pub ending_of : Naming → List ℕ
ending_of Capital = codes ".csv"
ending_of Capitals = codes ".csv"
ending_of AllCapitals = codes ".CSV"
ending_of CapitalAndEnding = codes ".CSV"
ending_of CapitalEnding = codes ".CSV"
ending_of Twice = codes ".csv.csv"
ending_of TextBehind = codes ".csv.txt"
ending_of Text = codes ".txt"
ending_of Workbook = codes ".xlsx"

-- `Items.csv`, `ITEMS.csv` and so on
abbrev pub other_name : Table → Naming → List ℕ
other_name table naming = stem_of table naming ++ ending_of naming
