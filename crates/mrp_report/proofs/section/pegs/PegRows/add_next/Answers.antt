use Rattle.std.proofs.Common.{◌∙◌, ◌++◌, List, ap, flat_map}
use Rattle.mrp_peg.specs.declared.matching.Requirement.{Requirement}
use Rattle.mrp_peg.specs.Groups.{needs_at}
use Rattle.mrp_peg.specs.Left.{pegs_left}
use Rattle.mrp_report.specs.section.PegGroups.{whole_text}
use Rattle.mrp_report.proofs.lemmas.section.PegGroups.{group_added}
use Rattle.mrp_report.proofs.section.pegs.PegRows.add_next.Goals as goal

pub returns-clause-added : goal.returns-clause-added
returns-clause-added c =
    let page = c.args.page.now in
    let rows = c.args.self.now in
    let t = rows.item.readings.now.names.tables.now in
    let name = rows.item.name.now in
    let orders = rows.item.orders.now in
    let walk = c.next_group.new.self in
    let group = c.in_ok-group.group in
    let adds = c.in_ok-add_group.ensures ∙ ap (λ (l : List Requirement). page ++ flat_map (whole_text t name orders group) l) c.needs-needs.ensures in
    λ _. group_added t name orders group (needs_at walk group) (pegs_left rows.walk) (pegs_left walk) page c.add_group.new.page c.in_ok-group.ensures.pegs adds
