use Rattle.std.proofs.Common.{arith}
use Rattle.mrp_survey.proofs.Skipping.{not-true}
use Rattle.mrp_survey.proofs.lines.plain_len.Goals as goal

pub returns-in-Some-clause-plain : goal.returns-in-Some-clause-plain
returns-in-Some-clause-plain c = λ k below. not-true _ (c.in-Some.ensures.0.before k (omega arith) below)

pub returns-in-None-clause-plain : goal.returns-in-None-clause-plain
returns-in-None-clause-plain c = λ k below. not-true _ (c.in-None.ensures k (omega arith) below)
