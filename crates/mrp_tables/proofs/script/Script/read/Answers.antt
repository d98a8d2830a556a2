use Rattle.std.proofs.Common.{arith, refl}
use Rattle.mrp_tables.specs.declared.limits.TheConstants as limits
use Rattle.mrp_tables.proofs.script.Script.read.Goals as goal

pub returns-clause-count : goal.returns-clause-count
returns-clause-count c = rw c.into_rows.ensures.rows (c.in_ok-script.ensures.count limits.MOST_ROWS (omega arith) (λ before. refl))
