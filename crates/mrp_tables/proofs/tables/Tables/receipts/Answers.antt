use Rattle.std.proofs.Common.{subst, sym}
use Rattle.mrp_tables.specs.Facts.{NumbersRise}
use Rattle.mrp_tables.proofs.tables.Tables.receipts.Goals as goal

pub returns-clause-numbers : goal.returns-clause-numbers
returns-clause-numbers c = subst NumbersRise (sym c.as_slice.ensures.value) c.self.invariant.numbered
