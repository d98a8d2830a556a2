use Rattle.mrp_journal.proofs.Restarts.{begun-again}
use Rattle.mrp_journal.proofs.laws.restarts.Goals as goal

pub returns : goal.returns
returns c = begun-again
