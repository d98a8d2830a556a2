-- The rows of pegs that are still to be put on a page.
use Rattle.std.specs.Prelude.{ℕ, ◌≡◌, List, ◌++◌, flat_map, length}
use Rattle.mrp_peg.specs.Left.{pegs_left}
use Rattle.mrp_report.specs.section.PegText.{peg_text}
use Rattle.mrp_report.specs.declared.section.pegs.PegRows.{PegRows}

abbrev pub rows_left : PegRows → List ℕ
rows_left r = flat_map (peg_text r.item.readings.now.names.tables.now r.item.name.now r.item.orders.now) (pegs_left r.walk)

abbrev pub count_left : PegRows → ℕ
count_left r = length (pegs_left r.walk)

-- what was next is now at the end of the page
pub record IsAdded (old new before after : List ℕ) : Type 0 where
  pub text : List ℕ
  pub put : new ≡ old ++ text
  pub rest : before ≡ text ++ after
