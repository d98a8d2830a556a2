use Rattle.mrp_engine.proofs.lemmas.threads.Told.{left-reported}
use Rattle.mrp_engine.proofs.laws.threads_keep_the_headline.Goals as goal

pub returns : goal.returns
returns c = left-reported
