use Rattle.std.proofs.Common.{◌≡◌, ◌∙◌, get_or, arith}
use Rattle.std.proofs.lemmas.Grind.{get_or_default_zero}
use Rattle.mrp_item.proofs.DependentDemand.{required_all, required_past}
use Rattle.mrp_item.proofs.dependent.add_required.Goals as goal

pub returns-in_err-demand-clause-none : goal.returns-in_err-demand-clause-none
returns-in_err-demand-clause-none c =
    let demand = c.args.demand.now in
    let lines = c.args.lines.now in
    let k = c.loop-before.before in
    let from = c.index-demand-before.result in
    let was : from ≡ get_or demand k 0 = c.index-demand-before.is ∙ get_or_default_zero c.loop-before.demand k from (omega arith) ∙ c.loop-before.invariant.left k (omega arith) in
    rw c.from_residual.ensures (required_past demand lines k (omega arith) (omega (arith, was, c.in_err-demand.ensures)))

pub returns-clause-added : goal.returns-clause-added
returns-clause-added c =
    required_all c.args.demand.now c.loop-before.demand c.args.lines.now c.loop-before.auto.demand (λ k h. c.loop-before.invariant.done k (omega arith))
