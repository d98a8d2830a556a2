use Rattle.std.proofs.Common.{◌∙◌, sym}
use Rattle.std.proofs.lemmas.List.{length-map}
use Rattle.mrp_rows.proofs.cell_texts.CellTexts.len.Goals as goal

pub returns : goal.returns
returns c = rw (← c.self.view_is) (c.len.ensures ∙ c.self.inside.places.ok.0 ∙ sym (length-map c.self.inside.places.items _))
