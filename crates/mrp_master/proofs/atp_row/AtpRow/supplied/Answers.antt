use Rattle.std.proofs.Common.{◌≡◌, ◌<◌, ◌-◌, length, get_or, ap, sym, subst, ◌∙◌, arith}
use Rattle.std.proofs.lemmas.List.{get_or_read}
use Rattle.mrp_phase.specs.Weeks.{in_week}
use Rattle.mrp_phase.proofs.WeekRows.{in_week_at}
use Rattle.mrp_master.specs.AtpRow.{AtpRow, IsWeekOf}
use Rattle.mrp_master.specs.Tree.{row_of}
use Rattle.mrp_master.proofs.atp_row.AtpRow.supplied.Goals as goal

pub returns : goal.returns
returns c =
    let supply = c.self.inside.supply.items in
    let inside : IsWeekOf (row_of supply c.self.inside.booked.items) c.args.week = subst (λ r. IsWeekOf r c.args.week) (sym c.self.view_is) c.requires in
    let there : c.from.result - 1 < length supply = omega (arith, inside.0, inside.1, c.from.ensures) in
    let place : c.from.result - 1 ≡ c.args.week - 1 = omega (arith, c.from.ensures) in
    subst (λ (r : AtpRow). c.index.result.now ≡ in_week r.supply c.args.week) c.self.view_is
    (get_or_read supply (c.from.result - 1) c.index.result.now there c.index.ensures 0 ∙ sym (in_week_at supply c.args.week inside.0 ∙ ap (λ i. get_or supply i 0) (sym place)))
