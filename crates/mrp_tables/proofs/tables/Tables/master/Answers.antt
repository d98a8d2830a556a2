use Rattle.std.proofs.Common.{subst, sym}
use Rattle.mrp_tables.specs.Facts.{RowsRise}
use Rattle.mrp_tables.proofs.tables.Tables.master.Goals as goal

pub returns-clause-numbers : goal.returns-clause-numbers
returns-clause-numbers c = subst RowsRise (sym c.as_slice.ensures.value) c.self.invariant.scheduled
