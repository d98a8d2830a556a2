use Rattle.std.proofs.Common.{◌≡◌, ◌∙◌, ap}
use Rattle.mrp_tables.specs.Tables.{Tables}
use Rattle.mrp_item.specs.Inputs.{Inputs}
use Rattle.mrp_report.proofs.lemmas.section.PlanSheets.{entry-is}
use Rattle.mrp_report.proofs.section.item.entry_of.Goals as goal

pub returns : goal.returns
returns c =
    let s = c.args.planned.now.inputs in
    let tables : c.tables.result.now ≡ s.tables = c.tables.ensures.value ∙ c.shop.ensures.tables ∙ ap (λ (x : Inputs). x.tables) (c.deref.ensures ∙ c.inputs.ensures.inputs) in
    entry-is s c.items.result.now c.args.planned.now.item c.item.result c.index-items-item.result _ (c.items.ensures.rows ∙ ap (λ (t : Tables). t.items) tables) c.item.ensures.item c.item.ensures.within c.index-items-item.is
