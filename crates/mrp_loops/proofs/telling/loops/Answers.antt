use Rattle.mrp_loops.proofs.telling.loops.Goals as goal

pub returns-then-falls-clause-all : goal.returns-then-falls-clause-all
returns-then-falls-clause-all c = λ item needs. absurd (c.in_ok-falls.ensures c.if-falls.true item needs)

pub returns-then-leads_on-clause-all : goal.returns-then-leads_on-clause-all
returns-then-leads_on-clause-all c = λ item needs. absurd (c.in_ok-leads_on.ensures c.if-leads_on.true item needs)
