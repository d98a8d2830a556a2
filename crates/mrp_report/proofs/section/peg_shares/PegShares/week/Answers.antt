use Rattle.mrp_report.specs.declared.section.peg_shares.Shared.TheVariants as shared
use Rattle.mrp_report.proofs.lemmas.section.PegShares.{ready_told}
use Rattle.mrp_report.proofs.section.peg_shares.PegShares.week.Goals as goal

pub returns : goal.returns
returns c =
    let shares = c.args.self.now in
    ready_told shares.tables.now shared.Week shares.weeks.items c.deref.result.now c.from.result c.args.week c.ready_at.result shares.weekly c.deref.ensures.value c.from.ensures c.ready_at.ensures
