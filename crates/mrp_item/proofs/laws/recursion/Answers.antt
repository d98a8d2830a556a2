use Rattle.std.proofs.Common.{◌∙◌, ◌<◌, suc, sym, arith}
use Rattle.mrp_bill.specs.Bill.{IsParent}
use Rattle.mrp_item.specs.Plan.{outcome_of, outcome_step, Blocked}
use Rattle.mrp_item.specs.Inputs.{count}
use Rattle.mrp_item.proofs.Fuel.{value_to-only}
use Rattle.mrp_item.proofs.Steps.{outcome_step-local}
use Rattle.mrp_item.proofs.Outcomes.{outcome_of-unfolds}
use Rattle.mrp_item.proofs.laws.recursion.Goals as goal

pub returns-clause-unfolds : goal.returns-clause-unfolds
returns-clause-unfolds c = outcome_of-unfolds

pub returns-clause-only : goal.returns-clause-only
unfolding outcome_of
returns-clause-only c = λ s code ranked f solves i.
    let within : code i < suc (count s) = omega (arith, ranked.within i) in
    value_to-only (IsParent s.tables.bills) (outcome_step s) Blocked code (outcome_step-local s) ranked.rises f solves (suc (count s)) i within

pub returns-clause-any_order : goal.returns-clause-any_order
returns-clause-any_order c = λ s code ranked f i finished.
    outcome_step-local s i f (outcome_of s) finished ∙ sym (outcome_of-unfolds s code ranked i)

pub returns-clause-parents_alone : goal.returns-clause-parents_alone
returns-clause-parents_alone c = outcome_step-local
