use Rattle.mrp_script.proofs.OneOpening.{same-history}
use Rattle.mrp_engine.proofs.ScriptLaws.{plans-what-stood}
use Rattle.mrp_engine.proofs.laws.runs.Goals as goal

pub returns-clause-one_history : goal.returns-clause-one_history
returns-clause-one_history c = same-history

pub returns-clause-what_stood : goal.returns-clause-what_stood
returns-clause-what_stood c = λ tables h answers. plans-what-stood tables h answers.legal
