use Rattle.mrp_engine.proofs.lemmas.threads.Days.{of-snapshots}
use Rattle.mrp_engine.proofs.laws.days_are_of_snapshots.Goals as goal

pub returns : goal.returns
returns c = of-snapshots
