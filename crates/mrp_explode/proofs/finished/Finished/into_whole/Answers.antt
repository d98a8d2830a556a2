use Rattle.std.proofs.Common.{◌<◌, ℕ, subst, sym}
use Rattle.mrp_item.specs.Inputs.{count}
use Rattle.mrp_explode.specs.Finished.{IsFinished, Progress}
use Rattle.mrp_explode.proofs.Taken.{all-own, all-there}
use Rattle.mrp_explode.proofs.finished.Finished.into_whole.Goals as goal

pub out_of_places-requires : goal.out_of_places-requires
out_of_places-requires c =
    all-there c.self.inside.inputs.value c.self.inside.outcomes.items c.self.invariant
    (subst (λ (p : Progress). (i : ℕ) → i < count p.inputs → IsFinished p i) (sym c.self.view_is) c.requires)

pub plan_from-requires : goal.plan_from-requires
plan_from-requires c = all-own c.self.inside.inputs.value c.self.inside.outcomes.items c.in_ok-all.all.items c.self.invariant c.in_ok-all.ensures
