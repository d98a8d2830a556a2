use Rattle.mrp_tables.proofs.PartsRead.{all_tables}
use Rattle.mrp_tables.proofs.TablesKept.{are_tables}
use Rattle.mrp_tables.proofs.tables.Tables.of.Goals as goal

pub invariant_of-result : goal.invariant_of-result
invariant_of-result c =
    let parts = c.requires in
    are_tables parts.0 _ (rw (c.into_rows.ensures.rows) (all_tables parts.0 _ _ _ parts.1 parts.2 parts.3))
