use Rattle.std.proofs.Common.{◌≡◌, ◌<◌, ◌-◌, length, get_or, ap, sym, subst, ◌∙◌, arith}
use Rattle.std.proofs.lemmas.List.{get_or_read}
use Rattle.mrp_phase.specs.Weeks.{in_week}
use Rattle.mrp_phase.proofs.WeekRows.{in_week_at}
use Rattle.mrp_master.specs.AtpRow.{AtpRow, IsWeekOf}
use Rattle.mrp_master.specs.Tree.{row_of}
use Rattle.mrp_master.proofs.atp_row.AtpRow.booked.Goals as goal

pub returns-clause-value : goal.returns-clause-value
returns-clause-value c =
    let booked = c.self.inside.booked.items in
    let inside : IsWeekOf (row_of c.self.inside.supply.items booked) c.args.week = subst (λ r. IsWeekOf r c.args.week) (sym c.self.view_is) c.requires in
    let there : c.from.result - 1 < length booked = omega (arith, inside.0, inside.1, c.self.invariant.row.row.same, c.from.ensures) in
    let place : c.from.result - 1 ≡ c.args.week - 1 = omega (arith, c.from.ensures) in
    subst (λ (r : AtpRow). c.index.result.now ≡ in_week r.booked c.args.week) c.self.view_is
    (get_or_read booked (c.from.result - 1) c.index.result.now there c.index.ensures 0 ∙ sym (in_week_at booked c.args.week inside.0 ∙ ap (λ i. get_or booked i 0) (sym place)))
