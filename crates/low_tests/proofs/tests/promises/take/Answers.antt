use Rattle.std.proofs.Common.{◌≤◌, length, arith}
use Rattle.mrp_master.specs.AtpRow.{IsWeekOf}
use Rattle.mrp_master.proofs.Carried.{fits_available}
use Rattle.low_tests.proofs.tests.promises.take.Goals as goal

pub take-requires-clause-available : goal.take-requires-clause-available
take-requires-clause-available g c =
    let inside : IsWeekOf c.args.row.now c.args.week = (omega arith, omega (arith, c.weeks-weeks.ensures.value)) in
    fits_available c.args.row.now c.args.week c.pieces-quantity.result c.available-most.result c.weeks-weeks.ensures.kept inside c.available-most.ensures
    (omega (arith, c.value.ensures.pieces, c.value-2.ensures.pieces))
