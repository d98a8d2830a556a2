-- The section `run` (profile).
use Rattle.std.specs.Prelude.{ℕ, List, [], ◌∷◌, ◌++◌, decimal}
use Rattle.mrp_day.specs.Sections.{head_of}
use Rattle.mrp_day.specs.declared.section.Section.TheVariants as section
use Rattle.mrp_report.specs.page.Rows.{row}

-- the entry of the order book that the run plans from, and how many bookings stand there
abbrev pub run_text : ℕ → ℕ → List ℕ
run_text front standing = head_of section.Run ++ row (decimal front ∷ decimal standing ∷ [])
