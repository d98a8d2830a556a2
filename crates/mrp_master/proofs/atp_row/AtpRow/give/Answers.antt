use Rattle.std.proofs.Common.{◌≤◌, ◌-◌, arith}
use Rattle.mrp_phase.specs.Weeks.{in_week}
use Rattle.mrp_master.proofs.Carried.{fits_lower}
use Rattle.mrp_master.proofs.atp_row.AtpRow.give.Goals as goal

pub book-requires-clause-available : goal.book-requires-clause-available
book-requires-clause-available c =
    let less : c.value-before.result - c.value.result ≤ in_week c.args.self.now.booked c.args.week = omega (arith, c.value-before.ensures.pieces, c.booked.ensures.value) in
    fits_lower c.args.self.now c.args.week (c.value-before.result - c.value.result) c.booked.ensures.kept.same c.requires.week less c.booked.ensures.kept.covered
