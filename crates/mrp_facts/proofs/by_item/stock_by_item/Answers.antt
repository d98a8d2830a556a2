use Rattle.std.proofs.Common.{◌∙◌, ◌<◌, ℕ, List, ap, sym, subst}
use Rattle.std.specs.Prelude.{All}
use Rattle.std.proofs.lemmas.List.Elements.{All-map}
use Rattle.mrp_bill.specs.declared.groups.Numbered.{Numbered}
use Rattle.mrp_bill.specs.Grouped.{values_of}
use Rattle.mrp_bill.proofs.GroupParts.{told-of, values_of-all}
use Rattle.mrp_facts.specs.Facts.{of_stock, stock_of}
use Rattle.mrp_facts.proofs.by_item.stock_by_item.Goals as goal

pub of-requires : goal.of-requires
of-requires c =
    let is = c.deref.ensures.value ∙ c.in_ok-numbered.ensures in
    subst (λ (numbered : List (Numbered ℕ)). All (λ d. d.number < c.args.count) numbered) (sym is)
    (All-map (λ (d : Numbered ℕ). d.number < c.args.count) of_stock c.args.rows.now c.requires)

pub returns-clause-groups : goal.returns-clause-groups
returns-clause-groups c =
    let is = c.deref.ensures.value ∙ c.in_ok-numbered.ensures in
    told-of c.of.result c.args.count (values_of c.deref.result.now) (stock_of c.args.rows.now) c.of.ensures.groups
    (λ i. ap (λ (numbered : List (Numbered ℕ)). values_of numbered i) is ∙ values_of-all of_stock c.args.rows.now i)
