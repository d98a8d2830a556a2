use Rattle.mrp_page.proofs.Worked.{drawn-is, exact-rest, left-is, minutes-are, one-is, others-are, parts-make-load, too-much-is, works-are, works-fall, works-once}
use Rattle.mrp_page.proofs.laws.operations_make_the_load.Goals as goal

pub returns-clause-works : goal.returns-clause-works
returns-clause-works c = works-are

pub returns-clause-once : goal.returns-clause-once
returns-clause-once c = works-once

pub returns-clause-order : goal.returns-clause-order
returns-clause-order c = works-fall

pub returns-clause-drawn : goal.returns-clause-drawn
returns-clause-drawn c = drawn-is

pub returns-clause-too_much : goal.returns-clause-too_much
returns-clause-too_much c = too-much-is

pub returns-clause-one : goal.returns-clause-one
returns-clause-one c = one-is

pub returns-clause-others : goal.returns-clause-others
returns-clause-others c = others-are

pub returns-clause-left : goal.returns-clause-left
returns-clause-left c = left-is

pub returns-clause-minutes : goal.returns-clause-minutes
returns-clause-minutes c = minutes-are

pub returns-clause-sum : goal.returns-clause-sum
returns-clause-sum c = parts-make-load

pub returns-clause-exact : goal.returns-clause-exact
returns-clause-exact c = exact-rest
