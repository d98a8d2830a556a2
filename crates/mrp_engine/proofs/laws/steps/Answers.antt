use Rattle.mrp_turn.proofs.Logs.{EachFollows-more, EachFollows-nil}
use Rattle.mrp_engine.specs.event_core.Core.{MayFollowSteps, opened}
use Rattle.mrp_engine.proofs.lemmas.event_core.CoreLaws.{core-none, core-one, tables-stay}
use Rattle.mrp_engine.proofs.laws.steps.Goals as goal

pub returns-clause-none : goal.returns-clause-none
returns-clause-none c = λ tables. (EachFollows-nil (MayFollowSteps tables), core-none (opened tables))

pub returns-clause-more : goal.returns-clause-more
returns-clause-more c = λ tables steps e a right fits is. EachFollows-more (MayFollowSteps tables) steps (e, a) right (fits, is)

pub returns-clause-after : goal.returns-clause-after
returns-clause-after c = λ tables steps e a. core-one tables steps (e, a)

pub returns-clause-tables : goal.returns-clause-tables
returns-clause-tables c = λ tables steps. tables-stay tables steps
