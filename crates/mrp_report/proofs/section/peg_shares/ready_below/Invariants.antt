use Rattle.std.proofs.Common.{◌≡◌, length}
use Rattle.mrp_report.specs.section.PegShares.{AreReady}
use Rattle.mrp_report.proofs.section.peg_shares.ready_below.Given as goal

abbrev pub invariant-loop-number : goal.invariant-loop-number
invariant-loop-number l = (length l.all.items ≡ l.number) × AreReady l.names.tables.now l.what l.all.items
