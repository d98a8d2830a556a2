-- The section `loads` (profile).
use Rattle.std.specs.Prelude.{ℕ, List, [], ◌∷◌, decimal}
use Rattle.mrp_qty.specs.Minutes.{minutes_text_of}
use Rattle.mrp_report.specs.declared.section.loads.LoadRow.{LoadRow}
use Rattle.mrp_report.specs.page.Rows.{row}

-- a week of a work centre, its times in minutes
abbrev pub load_text : List ℕ → LoadRow → List ℕ
load_text name r =
    row (name ∷ decimal r.week ∷ minutes_text_of r.load ∷ minutes_text_of r.capacity ∷ minutes_text_of r.over ∷ [])
