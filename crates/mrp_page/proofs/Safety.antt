-- Safety stocks stand in the scale of a picture, and in a cell.
use Rattle.std.proofs.Common.{◌≡◌, ◌∙◌, ◌<◌, ℕ, Some, List, [], ◌++◌, codes, decimal, refl, ap}
use Rattle.std.proofs.lemmas.Bool.{lt-ltb}
use Rattle.mrp_facts.specs.Facts.{Facts, item_facts}
use Rattle.mrp_facts.specs.declared.facts.ItemFacts.{ItemFacts}
use Rattle.mrp_page.specs.Escaped.{escaped}
use Rattle.mrp_page.specs.Html.{number_html}
use Rattle.mrp_page.specs.ItemFacts.{safety_cell_html, safety_cell_or_none, scale_html, scale_or_none}
use Rattle.mrp_page.specs.layout.Records.{safety_scale}
use Rattle.mrp_page.specs.Row.{RowView, cell_at}
use Rattle.mrp_page.specs.Template.{row_html}

pub scale-is : (facts : Facts) (frame : RowView) (own : ItemFacts) → item_facts facts.tables (cell_at frame 0) ≡ Some own → 0 < own.item.safety → scale_html (Some facts) frame ≡ codes "<span>dashes: safety stock " ++ (escaped (decimal own.item.safety) ++ (codes "</span>" ++ []))
unfolding row_html safety_scale
scale-is facts frame own is some = ap scale_or_none is ∙ rw (lt-ltb 0 own.item.safety some) refl

pub cell-is : (facts : Facts) (name : List ℕ) (own : ItemFacts) → item_facts facts.tables name ≡ Some own → safety_cell_html (Some facts) name ≡ number_html (decimal own.item.safety)
cell-is facts name own is = ap safety_cell_or_none is
