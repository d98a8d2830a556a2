use Rattle.std.proofs.Common.{◌∙◌, ap, arith, length}
use Rattle.mrp_page.proofs.FirstRows.{found-stretch}
use Rattle.mrp_page.proofs.places.Places.start.Goals as goal

pub returns-clause-within : goal.returns-clause-within
returns-clause-within c =
    let is = found-stretch c.self.inside.stretches c.self.inside.rows.now c.args.name.now c.self.invariant c.copied.result c.unwrap_or.result (c.copied.ensures ∙ c.get.ensures.value) c.unwrap_or.ensures in
    omega (arith, is.first, ap length c.self.view_is)
