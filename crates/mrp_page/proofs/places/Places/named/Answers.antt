use Rattle.std.proofs.Common.{◌∙◌, ap}
use Rattle.mrp_page.specs.Rows.{rows_named}
use Rattle.mrp_page.proofs.FirstRows.{found-stretch}
use Rattle.mrp_page.proofs.places.Places.named.Goals as goal

pub rows_of-requires : goal.rows_of-requires
rows_of-requires c =
    let is = found-stretch c.self.inside.stretches c.self.inside.rows.now c.args.name.now c.self.invariant c.copied.result c.unwrap_or-stretch.result (c.copied.ensures ∙ c.get.ensures.value) c.unwrap_or-stretch.ensures in
    record { first = is.first; count = is.count }

pub returns : goal.returns
returns c =
    let is = found-stretch c.self.inside.stretches c.self.inside.rows.now c.args.name.now c.self.invariant c.copied.result c.unwrap_or-stretch.result (c.copied.ensures ∙ c.get.ensures.value) c.unwrap_or-stretch.ensures in
    c.rows_of.ensures ∙ is.standing ∙ ap (rows_named c.args.name.now) c.self.view_is
