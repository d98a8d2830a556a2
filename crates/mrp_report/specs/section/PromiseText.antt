-- The section `promises` (profile).
use Rattle.std.specs.Prelude.{ℕ, List, [], ◌∷◌, decimal}
use Rattle.mrp_report.specs.declared.section.promises.PromiseRow.{PromiseRow}
use Rattle.mrp_report.specs.page.Rows.{row}

-- a week of an item
abbrev pub promise_text : List ℕ → PromiseRow → List ℕ
promise_text name r = row (name ∷ decimal r.week ∷ decimal r.firm ∷ decimal r.booked ∷ decimal r.bucket ∷ decimal r.available ∷ [])
