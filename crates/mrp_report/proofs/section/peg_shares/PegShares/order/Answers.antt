use Rattle.std.proofs.Common.{◌≡◌, IfSome, refl, sym, subst}
use Rattle.mrp_item.specs.declared.order.OrderKind.{OrderKind}
use Rattle.mrp_item.specs.declared.order.OrderKind.TheVariants as kind
use Rattle.mrp_report.specs.declared.section.peg_shares.Shared.TheVariants as shared
use Rattle.mrp_report.specs.section.PegShares.{shared_cells}
use Rattle.mrp_report.proofs.lemmas.section.PegShares.{ready_told}
use Rattle.mrp_report.proofs.section.peg_shares.PegShares.order.Goals as goal

pub returns-in-Firm : goal.returns-in-Firm
returns-in-Firm c =
    let shares = c.args.self.now in
    subst (λ (k : OrderKind). IfSome c.ready_at.result (λ cells. cells.now ≡ shared_cells shares.tables.now (shared.Order k) c.args.number)) (sym c.in-Firm.is)
    (ready_told shares.tables.now (shared.Order kind.Firm) shares.firm.items c.deref.result.now c.args.number c.args.number c.ready_at.result shares.firmly c.deref.ensures.value refl c.ready_at.ensures)

pub returns-in-Planned : goal.returns-in-Planned
returns-in-Planned c =
    let shares = c.args.self.now in
    subst (λ (k : OrderKind). IfSome c.ready_at-in-Planned.result (λ cells. cells.now ≡ shared_cells shares.tables.now (shared.Order k) c.args.number)) (sym c.in-Planned.is)
    (ready_told shares.tables.now (shared.Order kind.Planned) shares.planned.items c.deref-in-Planned.result.now c.args.number c.args.number c.ready_at-in-Planned.result shares.by_plan c.deref-in-Planned.ensures.value refl c.ready_at-in-Planned.ensures)
