use Rattle.mrp_page.proofs.ListWeeks.{alone-is, at-risk-is, call-is, cell-is, entry-is, explained-is, history-is, operation-is, order-is, overload-is, peg-is, plain-is, runs-out-is, said-is, to-week-is, undated-are, unsaid-is, worst-is}
use Rattle.mrp_page.proofs.laws.weeks_of_lists_stand_with_their_dates.Goals as goal

pub returns-clause-undated : goal.returns-clause-undated
returns-clause-undated c = undated-are

pub returns-clause-alone : goal.returns-clause-alone
returns-clause-alone c = alone-is

pub returns-clause-unsaid : goal.returns-clause-unsaid
returns-clause-unsaid c = unsaid-is

pub returns-clause-dated : goal.returns-clause-dated
returns-clause-dated c = cell-is

pub returns-clause-said : goal.returns-clause-said
returns-clause-said c = said-is

pub returns-clause-order : goal.returns-clause-order
returns-clause-order c = order-is

pub returns-clause-to_week : goal.returns-clause-to_week
returns-clause-to_week c = to-week-is

pub returns-clause-peg : goal.returns-clause-peg
returns-clause-peg c = peg-is

pub returns-clause-at_risk : goal.returns-clause-at_risk
returns-clause-at_risk c = at-risk-is

pub returns-clause-runs_out : goal.returns-clause-runs_out
returns-clause-runs_out c = runs-out-is

pub returns-clause-call : goal.returns-clause-call
returns-clause-call c = call-is

pub returns-clause-entry : goal.returns-clause-entry
returns-clause-entry c = entry-is

pub returns-clause-history : goal.returns-clause-history
returns-clause-history c = history-is

pub returns-clause-operation : goal.returns-clause-operation
returns-clause-operation c = operation-is

pub returns-clause-overload : goal.returns-clause-overload
returns-clause-overload c = overload-is

pub returns-clause-plain : goal.returns-clause-plain
returns-clause-plain c = plain-is

pub returns-clause-explained : goal.returns-clause-explained
returns-clause-explained c = explained-is

pub returns-clause-worst : goal.returns-clause-worst
returns-clause-worst c = worst-is
