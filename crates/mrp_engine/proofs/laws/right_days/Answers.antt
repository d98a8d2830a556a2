use Rattle.mrp_engine.proofs.RightDays.{by-words, day-right, from-script, in-order, live-right}
use Rattle.mrp_engine.proofs.ScriptLaws.{books-within, plans-what-stood, stays-covered}
use Rattle.mrp_engine.proofs.laws.right_days.Goals as goal

pub returns-clause-in_order : goal.returns-clause-in_order
returns-clause-in_order c = in-order

pub returns-clause-day : goal.returns-clause-day
returns-clause-day c = day-right

pub returns-clause-live : goal.returns-clause-live
returns-clause-live c = live-right

pub returns-clause-from_script : goal.returns-clause-from_script
returns-clause-from_script c = from-script

pub returns-clause-by_words : goal.returns-clause-by_words
returns-clause-by_words c = by-words

pub returns-clause-what_stood : goal.returns-clause-what_stood
returns-clause-what_stood c = λ tables h answers. plans-what-stood tables h answers.legal

pub returns-clause-within : goal.returns-clause-within
returns-clause-within c = λ tables h answers. books-within tables h answers.legal

pub returns-clause-covered : goal.returns-clause-covered
returns-clause-covered c = λ tables h answers. stays-covered tables h answers.legal
