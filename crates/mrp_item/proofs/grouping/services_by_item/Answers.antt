use Rattle.std.proofs.Common.{◌∙◌, ◌<◌, List, ap, sym, subst}
use Rattle.std.specs.Prelude.{All, filter}
use Rattle.std.proofs.lemmas.List.Elements.{All-map, All-filter}
use Rattle.mrp_tables.specs.declared.rows.MasterRow.{MasterRow}
use Rattle.mrp_tables.specs.Master.{is_service}
use Rattle.mrp_item.specs.declared.due.Due.{Due}
use Rattle.mrp_bill.specs.declared.groups.Numbered.{Numbered}
use Rattle.mrp_item.specs.Dues.{service_dues}
use Rattle.mrp_item.specs.Numbered.{of_master}
use Rattle.mrp_bill.specs.Grouped.{values_of}
use Rattle.mrp_bill.proofs.GroupParts.{told-of, values_of-kept}
use Rattle.mrp_item.proofs.grouping.services_by_item.Goals as goal

pub of-requires : goal.of-requires
of-requires c =
    let is = c.deref.ensures.value ∙ c.in_ok-dues.ensures in
    subst (λ (dues : List (Numbered Due)). All (λ d. d.number < c.args.count) dues) (sym is)
    (All-map (λ (d : Numbered Due). d.number < c.args.count) of_master (filter (λ (r : MasterRow). is_service r.kind) c.args.rows.now) (All-filter (λ (r : MasterRow). is_service r.kind) (λ (r : MasterRow). (of_master r).number < c.args.count) c.args.rows.now c.requires))

pub returns-clause-lists : goal.returns-clause-lists
returns-clause-lists c =
    let is = c.deref.ensures.value ∙ c.in_ok-dues.ensures in
    told-of c.of.result c.args.count (values_of c.deref.result.now) (service_dues c.args.rows.now) c.of.ensures.groups
    (λ i. ap (λ (dues : List (Numbered Due)). values_of dues i) is ∙ values_of-kept of_master (λ (r : MasterRow). is_service r.kind) c.args.rows.now i)
