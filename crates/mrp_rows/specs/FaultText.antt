-- The text of a fault (profile).
use Rattle.std.specs.Prelude.{ℕ, List, [], ◌∷◌, ◌++◌, codes, decimal}
use Rattle.std.specs.List.{slice_index_or}
use Rattle.mrp_rows.specs.declared.fault.Fault.{Fault}
use Rattle.mrp_rows.specs.declared.fault.Table.{Table}
use Rattle.mrp_rows.specs.declared.fault.Table.TheVariants as t

-- a table's name in section lines and faults
abbrev pub table_name : Table → List ℕ
table_name t.Calendar = codes "calendar"
table_name t.Items = codes "items"
table_name t.Centres = codes "centres"
table_name t.Stock = codes "stock"
table_name t.Receipts = codes "receipts"
table_name t.Bills = codes "bills"
table_name t.Routings = codes "routings"
table_name t.Master = codes "master"
table_name t.Script = codes "script"
table_name t.Bundle = codes "bundle"

-- the names of the faults by their codes, from 1 on; no fault has code 0
abbrev pub fault_names : List (List ℕ)
fault_names =
    codes "fault"
    ∷ codes "text-before-section"
    ∷ codes "unknown-section"
    ∷ codes "section-twice"
    ∷ codes "missing-section"
    ∷ codes "header"
    ∷ codes "columns"
    ∷ codes "name"
    ∷ codes "number"
    ∷ codes "date"
    ∷ codes "word"
    ∷ codes "range"
    ∷ codes "repeated"
    ∷ codes "unknown-item"
    ∷ codes "unknown-centre"
    ∷ codes "date-outside"
    ∷ codes "not-master"
    ∷ codes "master-safety"
    ∷ codes "master-receipt"
    ∷ codes "master-component"
    ∷ codes "too-many"
    ∷ codes "loop"
    ∷ codes "no-memory"
    ∷ codes "service-master"
    ∷ []

-- a fault's name; a code that no fault has is named `fault`
abbrev pub fault_name : ℕ → List ℕ
fault_name code = slice_index_or fault_names code (codes "fault")

-- code, name, table and row, separated by single spaces
abbrev pub text_of_fault : Fault → List ℕ
text_of_fault f = decimal f.code ++ codes " " ++ fault_name f.code ++ codes " " ++ table_name f.table ++ codes " " ++ decimal f.row
