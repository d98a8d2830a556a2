use Rattle.std.proofs.Common.{arith, refl}
use Rattle.mrp_tables.specs.declared.limits.TheConstants as limits
use Rattle.mrp_tables.proofs.routings.Routings.read.Goals as goal

pub returns-clause-count : goal.returns-clause-count
returns-clause-count c = rw c.into_rows.ensures.rows (c.in_ok-routings.ensures.count limits.MOST_OPERATIONS (omega arith) (λ before. refl))
