use Rattle.mrp_journal.proofs.Beginnings.{begun-table}
use Rattle.mrp_journal.proofs.laws.beginnings.Goals as goal

pub returns : goal.returns
returns c = begun-table
