use Rattle.std.proofs.Common.{◌≡◌, ◌∙◌, ◌<◌, Result, ap, length, subst, sym}
use Rattle.mrp_tables.specs.Tables.{Tables}
use Rattle.mrp_bill.specs.Shop.{Shop}
use Rattle.mrp_item.specs.Inputs.{inputs_of}
use Rattle.mrp_item.specs.Places.{WholePlan}
use Rattle.mrp_explode.specs.Explosion.{Explodes}
use Rattle.mrp_explode.specs.declared.fault.RunFault.{RunFault}
use Rattle.mrp_engine.specs.day.Planned.{PlansRun}
use Rattle.mrp_engine.specs.declared.day.fault.DayFault.{DayFault}
use Rattle.mrp_engine.proofs.lemmas.day.RefusedItem.{over-within, planned-run}
use Rattle.mrp_engine.proofs.day.runs.plan_or_refuse.Goals as goal

pub or_refusal-requires : goal.or_refusal-requires
or_refusal-requires g c item is =
    let s = inputs_of c.args.rows.now.value.tables c.args.snapshot.now in
    let same : c.deref-2.result.now.tables ≡ s.tables = ap (λ (x : Shop). x.tables) (c.deref-2.ensures ∙ c.shop.ensures ∙ c.deref.ensures) in
    subst (λ (t : Tables). item < length t.items) (sym same) (over-within s item (subst (λ (planned : Result WholePlan RunFault). Explodes s planned) is c.plan_next.ensures))

pub returns : goal.returns
returns g c =
    let s = inputs_of c.args.rows.now.value.tables c.args.snapshot.now in
    let same : c.deref-2.result.now.tables ≡ s.tables = ap (λ (x : Shop). x.tables) (c.deref-2.ensures ∙ c.shop.ensures ∙ c.deref.ensures) in
    subst (λ (r : Result WholePlan DayFault). PlansRun s r) (sym (c.or_refusal.ensures s (sym same))) (planned-run s c.plan_next.result c.plan_next.ensures)
