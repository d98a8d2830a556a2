use Rattle.mrp_engine.proofs.lemmas.threads.OneRun.{one-left, one-steps}
use Rattle.mrp_engine.proofs.laws.one_run_is_left.Goals as goal

pub returns : goal.returns
returns c = record { left = one-left; steps = one-steps }
