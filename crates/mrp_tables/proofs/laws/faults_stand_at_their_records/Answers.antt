use Rattle.mrp_tables.proofs.Blaming.{at_their_records}
use Rattle.mrp_tables.proofs.laws.faults_stand_at_their_records.Goals as goal

pub returns : goal.returns
returns c = at_their_records
