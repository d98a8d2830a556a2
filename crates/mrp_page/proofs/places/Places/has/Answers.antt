use Rattle.std.proofs.Common.{◌∙◌, List, ap}
use Rattle.std.specs.Prelude.{is_some}
use Rattle.mrp_page.specs.Draw.{has_item}
use Rattle.mrp_page.specs.Row.{RowView}
use Rattle.mrp_page.proofs.FirstRows.{has-stretch, stretch-in}
use Rattle.mrp_page.proofs.places.Places.has.Goals as goal

pub returns : goal.returns
returns c =
    c.contains_key.ensures ∙ ap is_some (stretch-in c.self.inside.stretches c.self.inside.rows.now c.args.name.now c.self.invariant)
    ∙ has-stretch c.self.inside.rows.now c.args.name.now ∙ ap (λ (rs : List RowView). has_item rs c.args.name.now) c.self.view_is
