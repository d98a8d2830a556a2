use Rattle.std.proofs.Common.{◌∙◌, ◌<◌, length, subst, sym, ap, arith}
use Rattle.mrp_tables.specs.Facts.{IsItem}
use Rattle.mrp_tables.specs.Tables.{Tables}
use Rattle.mrp_item.proofs.ShopLemmas.{is_plannable}
use Rattle.mrp_item.proofs.inputs.Inputs.entry.Goals as goal

pub returns-clause-within : goal.returns-clause-within
returns-clause-within c =
    let item = c.index-items-item.result in
    let items = c.items.ensures.rows ∙ ap (λ (t : Tables). t.items) (c.tables.ensures.value ∙ c.shop.ensures.tables) in
    let there : c.args.item < length c.items.result.now = omega (arith, c.requires, ap length items) in
    is_plannable item (subst IsItem (sym c.index-items-item.is) (c.items.ensures.within c.args.item item there))
