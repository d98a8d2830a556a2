use Rattle.std.proofs.Common.{◌≡◌, ◌∙◌, ◌++◌, List, drop, ap, subst}
use Rattle.std.specs.Prelude.{slice_index}
use Rattle.mrp_item.specs.Inputs.{Inputs, item_at}
use Rattle.mrp_item.specs.Limits.{IsSized}
use Rattle.mrp_item.specs.Plan.{HasParents, IsRanked}
use Rattle.mrp_peg.specs.declared.matching.Requirement.{Requirement}
use Rattle.mrp_peg.specs.Left.{required_after}
use Rattle.mrp_peg.specs.Matching.{amounts_required}
use Rattle.mrp_peg.proofs.Covered.{covered_item}
use Rattle.mrp_peg.proofs.Own.{own-of_all}
use Rattle.mrp_peg.proofs.WeeksLeft.{after_all}
use Rattle.mrp_peg.proofs.needs_left.NeedsLeft.of.Goals as goal

pub returns-clause-needs : goal.returns-clause-needs
returns-clause-needs c =
    let s = c.args.plan.now.inputs in
    let i = c.args.item in
    ap (λ (l : List Requirement). amounts_required (drop 0 l) ++ required_after s i 0) c.new.ensures.items ∙ after_all s i

pub returns-clause-covered : goal.returns-clause-covered
returns-clause-covered c =
    let s = c.args.plan.now.inputs in
    let i = c.args.item in
    let code = slice_index c.shop-ranked.result.now.codes in
    let e : c.deref-inputs.result.now ≡ s = c.deref-inputs.ensures ∙ c.inputs.ensures.inputs in
    let R : Inputs → Type 0 = λ x. IsRanked x code in
    let sized : IsSized (item_at s i) = subst (λ (x : Inputs). IsSized (item_at x i)) e c.is_master_item.ensures.sized in
    covered_item s i (own-of_all s i code c.args.plan.now.plans (subst R e c.shop-ranked.ensures.ranked) (subst HasParents e c.shop-ranked.ensures.parents) c.inputs.ensures.plan c.requires) sized
