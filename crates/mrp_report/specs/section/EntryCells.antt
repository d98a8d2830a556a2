-- The cells of a call and of a reply, as a row is put together.
use Rattle.std.specs.Prelude.{ℕ, List, [], ◌∷◌}
use Rattle.mrp_report.specs.declared.section.history.Called.{Called}
use Rattle.mrp_report.specs.declared.section.history.Replied.{Replied}
use Rattle.mrp_report.specs.page.CellOf.{cell_of}
use Rattle.mrp_report.specs.page.WordText.{word_text}

abbrev pub called_cells : Called → List (List ℕ)
called_cells c = word_text c.word ∷ cell_of c.item ∷ cell_of c.week ∷ cell_of c.quantity ∷ cell_of c.number ∷ []

abbrev pub replied_cells : Replied → List (List ℕ)
replied_cells r = word_text r.word ∷ cell_of r.value ∷ []
