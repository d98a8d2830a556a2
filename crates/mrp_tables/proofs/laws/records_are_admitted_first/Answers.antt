use Rattle.mrp_tables.proofs.AdmittedFirst.{admitted_first}
use Rattle.mrp_tables.proofs.laws.records_are_admitted_first.Goals as goal

pub returns : goal.returns
returns g c = admitted_first
