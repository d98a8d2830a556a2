use Rattle.std.proofs.Common.{length, refl, sym}
use Rattle.mrp_phase.specs.Weeks.{in_week}
use Rattle.mrp_lots.specs.LotLaws.{receipts-past}
use Rattle.mrp_lots.proofs.sizing.receipts_in.Goals as goal

pub returns-in-None-clause-too_large : goal.returns-in-None-clause-too_large
returns-in-None-clause-too_large g c =
    let needs = c.args.needs.now in (
      refl,
      receipts-past (g.L.Lot.rule c.args.lot.now) (g.met.L.Lot.kept c.args.lot.now) (length needs) (in_week needs) c.requires.rises c.loop-i.i c.loop-i.before c.loop-i-test.true c.loop-i.invariant.before (sym c.in-None.ensures),
    )
