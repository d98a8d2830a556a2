use Rattle.mrp_page.proofs.RiskRows.{in-order, once, says-none, says-some, says-unknown}
use Rattle.mrp_page.proofs.laws.promises_at_risk_stand_once.Goals as goal

pub returns-clause-once : goal.returns-clause-once
returns-clause-once c = once

pub returns-clause-order : goal.returns-clause-order
returns-clause-order c = in-order

pub returns-clause-some : goal.returns-clause-some
returns-clause-some c = says-some

pub returns-clause-none : goal.returns-clause-none
returns-clause-none c = says-none

pub returns-clause-unknown : goal.returns-clause-unknown
returns-clause-unknown c = says-unknown
