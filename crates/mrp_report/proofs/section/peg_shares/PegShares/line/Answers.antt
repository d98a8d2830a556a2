use Rattle.std.proofs.Common.{refl}
use Rattle.mrp_report.specs.declared.section.peg_shares.Shared.TheVariants as shared
use Rattle.mrp_report.proofs.lemmas.section.PegShares.{ready_told}
use Rattle.mrp_report.proofs.section.peg_shares.PegShares.line.Goals as goal

pub returns : goal.returns
returns c =
    let shares = c.args.self.now in
    ready_told shares.tables.now shared.Line shares.lines.items c.deref.result.now c.args.line c.args.line c.ready_at.result shares.lined c.deref.ensures.value refl c.ready_at.ensures
