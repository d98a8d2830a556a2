use Rattle.mrp_rows.proofs.JoinedParts.{come-apart}
use Rattle.mrp_rows.proofs.bundle_laws.joined_tables_come_apart.Goals as goal

pub returns : goal.returns
returns c = come-apart
