use Rattle.mrp_item.proofs.Outcomes.{all-planned, blocked, over, first}
use Rattle.mrp_item.proofs.laws.too_large.Goals as goal

pub returns-clause-blocked : goal.returns-clause-blocked
returns-clause-blocked c = blocked

pub returns-clause-over : goal.returns-clause-over
returns-clause-over c = over

pub returns-clause-first : goal.returns-clause-first
returns-clause-first c = first

pub returns-clause-planned : goal.returns-clause-planned
returns-clause-planned c = all-planned
