-- The section `plan` (profile).
use Rattle.std.specs.Prelude.{ℕ, List, [], ◌∷◌, decimal}
use Rattle.mrp_report.specs.declared.section.plan.PlanRow.{PlanRow}
use Rattle.mrp_report.specs.page.Rows.{row}

-- a week of an item
abbrev pub week_text : List ℕ → PlanRow → List ℕ
week_text name r =
    row (name ∷ decimal r.week ∷ decimal r.gross ∷ decimal r.receipts ∷ decimal r.firm ∷ decimal r.planned ∷ decimal r.start ∷ decimal r.balance ∷ [])
