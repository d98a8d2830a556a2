use Rattle.std.proofs.Common.{◌≡◌, ◌∙◌, ◌<◌, ℕ, Some, set, sym, subst, arith, ap, length}
use Rattle.mrp_item.specs.Inputs.{Inputs, count}
use Rattle.mrp_item.specs.Made.{item_from}
use Rattle.mrp_explode.specs.Finished.{Finishes, Progress}
use Rattle.mrp_explode.proofs.PlanOrder.{finishes-put, own-put}
use Rattle.mrp_explode.proofs.finished.Finished.put.Goals as goal

pub invariant_of-self : goal.invariant_of-self
invariant_of-self c =
    let s = c.self.inside.inputs.value in
    let from : s ≡ c.args.self.now.inputs = ap (λ (p : Progress). p.inputs) c.self.view_is in
    let within : c.item-item.result < count s = omega (arith, c.requires.item, c.item-item.ensures, ap count from) in
    own-put s c.self.inside.outcomes.items c.item-item.result c.args.outcome c.self.invariant within
    (ap (λ (x : Inputs). item_from x c.args.outcome.item) (c.requires.inputs ∙ sym from) ∙ ap (item_from s) (sym c.item-item.ensures))

pub returns-clause-finishes : goal.returns-clause-finishes
returns-clause-finishes c =
    let s = c.self.inside.inputs.value in
    let xs = c.self.inside.outcomes.items in
    let item = c.item-item.result in
    let from : s ≡ c.args.self.now.inputs = ap (λ (p : Progress). p.inputs) c.self.view_is in
    let within : item < length xs = omega (arith, c.requires.item, c.item-item.ensures, c.self.invariant.size, ap count from) in
    let new : Progress = record { inputs = s; outcomes = set xs item (Some c.args.outcome) } in
    subst (λ (p : Progress). Finishes p new c.args.outcome.item) c.self.view_is
    (subst (λ (n : ℕ). Finishes (record { inputs = s; outcomes = xs }) new n) c.item-item.ensures (finishes-put s xs item c.args.outcome within))
