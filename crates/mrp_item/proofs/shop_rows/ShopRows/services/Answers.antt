use Rattle.std.proofs.Common.{◌∙◌, ◌<◌, length, sym, subst}
use Rattle.std.specs.Prelude.{All}
use Rattle.std.specs.Int.{IsInRange}
use Rattle.std.proofs.lemmas.List.Elements.{All-same}
use Rattle.mrp_bill.specs.Shop.{Shop}
use Rattle.mrp_item.specs.declared.due.Due.{Due}
use Rattle.mrp_item.specs.Dues.{service_dues}
use Rattle.mrp_item.proofs.DueRows.{services-within}
use Rattle.mrp_item.proofs.shop_rows.ShopRows.services.Goals as goal

pub returns-clause-within : goal.returns-clause-within
returns-clause-within c =
    let t = c.self.inside.shop.value.tables in
    let i = c.args.item in
    let there : i < length t.items = subst (λ (x : Shop). i < length x.tables.items) (sym c.self.view_is) c.requires in
    let P : Shop → Type 0 = λ x. All (λ (d : Due). IsInRange 1 x.tables.calendar.weeks d.week) c.group.result.now in
    subst P c.self.view_is (All-same (λ (d : Due). IsInRange 1 t.calendar.weeks d.week) c.group.result.now (service_dues t.master i) (c.group.ensures ∙ c.self.invariant.service i there) (services-within t i c.self.invariant.master_within))
