use Rattle.mrp_tables.proofs.TellingTables.{reported_at_its_table}
use Rattle.mrp_tables.proofs.laws.faults_are_reported_at_their_tables.Goals as goal

pub returns : goal.returns
returns c = reported_at_its_table
