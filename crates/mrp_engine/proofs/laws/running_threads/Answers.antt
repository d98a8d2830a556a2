use Rattle.mrp_engine.proofs.lemmas.threads.Told.{left-told}
use Rattle.mrp_engine.proofs.laws.running_threads.Goals as goal

pub returns : goal.returns
returns c = left-told
