use Rattle.std.proofs.Common.{◌≤◌, arith, length, refl}
use Rattle.mrp_tables.specs.declared.limits.TheConstants as limits
use Rattle.mrp_tables.proofs.master.Master.read.Goals as goal

pub returns-clause-count : goal.returns-clause-count
returns-clause-count c =
    let read : length c.in_ok-master.master.rows ≤ limits.MOST_ROWS = c.in_ok-master.ensures.count limits.MOST_ROWS (omega arith) (λ before. refl) in
    let kept : length c.into_rows.result.items ≤ length c.in_ok-master.master.rows = c.into_rows.ensures.count in
    omega arith
