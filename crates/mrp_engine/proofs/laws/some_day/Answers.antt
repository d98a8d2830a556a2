use Rattle.mrp_engine.proofs.SomeDay.{bill, day, history, reading, runs}
use Rattle.mrp_engine.proofs.laws.some_day.Goals as goal

pub returns-clause-reading : goal.returns-clause-reading
returns-clause-reading c = reading c.accepted_tables_keep_their_limits.ensures

pub returns-clause-bill : goal.returns-clause-bill
returns-clause-bill c = bill c.loops.ensures.first

pub returns-clause-history : goal.returns-clause-history
returns-clause-history c = history c.histories.ensures.some_history

pub returns-clause-runs : goal.returns-clause-runs
returns-clause-runs c = runs

pub returns-clause-day : goal.returns-clause-day
returns-clause-day c = day c.accepted_tables_keep_their_limits.ensures c.loops.ensures.first c.histories.ensures.some_history
