use Rattle.std.proofs.Common.{◌≡◌, ◌∙◌, ℕ, Option, IfSome, refl, sym, ap, subst}
use Rattle.mrp_tables.specs.Tables.{Tables}
use Rattle.mrp_peg.specs.Groups.{group_peg}
use Rattle.mrp_report.specs.declared.section.peg_shares.Shared.TheVariants as shared
use Rattle.mrp_report.specs.declared.section.pegs.GroupCells.{GroupCells}
use Rattle.mrp_report.specs.section.PegGroups.{AreCells}
use Rattle.mrp_report.specs.section.PegShares.{shared_cells}
use Rattle.mrp_report.proofs.lemmas.section.PegShares.{line_of_shares}
use Rattle.mrp_report.proofs.section.pegs.ItemRows.parent_line.Goals as goal

pub returns : goal.returns
returns c =
    let rows = c.args.self.now in
    let readings = rows.readings.now in
    let tables = readings.names.tables.now in
    let group = c.args.group.now in
    let requirement = c.args.requirement.now in
    let cells = c.in_ok-cells.cells in
    let same : readings.pegs.tables.now ≡ tables = readings.shared ∙ sym readings.named in
    let are : AreCells tables rows.orders.now group cells = subst (λ (o : Option GroupCells). IfSome o (λ k. AreCells tables rows.orders.now group k)) c.in_ok-cells.was c.requires.cells in
    line_of_shares tables rows.name.now rows.orders.now (group_peg group requirement) requirement.need c.in-Parent.line c.in-Parent.order c.value.result cells.week.now c.in_ok-line.field-0.now cells.source.now
    refl c.in-Parent.is
    (are.week ∙ ap (λ (w : ℕ). shared_cells tables shared.Week w) (sym c.requires.week))
    (c.in_ok-line.ensures ∙ ap (λ (t : Tables). shared_cells t shared.Line c.in-Parent.line) same)
    are.source
    c.value.ensures.pieces
