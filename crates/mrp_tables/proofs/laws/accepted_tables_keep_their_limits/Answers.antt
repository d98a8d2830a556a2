use Rattle.mrp_tables.proofs.TablesKept.{are_tables}
use Rattle.mrp_tables.proofs.laws.accepted_tables_keep_their_limits.Goals as goal

pub returns : goal.returns
returns c = are_tables
