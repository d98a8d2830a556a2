use Rattle.std.proofs.Common.{◌≡◌, ◌∙◌, ◌<◌, ap, get_or, length, refl, subst, sym}
use Rattle.mrp_tables.specs.Tables.{Tables}
use Rattle.mrp_tables.specs.declared.item.Item.{Item}
use Rattle.mrp_explode.specs.declared.fault.RunFault.{RunFault}
use Rattle.mrp_engine.specs.day.Fault.{run_fault}
use Rattle.mrp_engine.specs.declared.day.fault.DayFault.TheVariants.{TooLarge}
use Rattle.mrp_engine.proofs.lemmas.day.RefusedItem.{entry-is}
use Rattle.mrp_engine.proofs.day.runs.refusal.Goals as goal

pub returns-in-TooLarge : goal.returns-in-TooLarge
returns-in-TooLarge c s same =
    let item = c.in-TooLarge.item in
    let items : c.items.result.now ≡ s.tables.items = c.items.ensures.rows ∙ ap (λ (t : Tables). t.items) (c.tables.ensures.value ∙ sym same) in
    let within : item < length s.tables.items = subst (λ (t : Tables). item < length t.items) (sym same) (c.requires item c.in-TooLarge.is) in
    let entry = get_or c.items.result.now item c.index-items-item.result in
    subst (λ (fault : RunFault). TooLarge entry.name ≡ run_fault s fault) (sym c.in-TooLarge.is)
    (ap (λ (e : Item). TooLarge e.name) (entry-is s c.items.result.now item entry c.index-items-item.result items within refl))
