use Rattle.std.proofs.Common.{◌≡◌, ◌∙◌, ap, subst}
use Rattle.std.specs.Prelude.{slice_index}
use Rattle.std.proofs.lemmas.Result.{IfOk-weaker}
use Rattle.mrp_master.specs.Supply.{supply_of}
use Rattle.mrp_book.specs.Booked.{AreBooked}
use Rattle.mrp_item.specs.Inputs.{Inputs}
use Rattle.mrp_item.specs.Plan.{HasParents, IsRanked}
use Rattle.mrp_peg.specs.Matching.{amounts_required}
use Rattle.mrp_peg.proofs.Covered.{covered_item}
use Rattle.mrp_peg.proofs.Dropped.{always_ok}
use Rattle.mrp_peg.proofs.Listed.{requirements_are, requirements_within, services_within}
use Rattle.mrp_peg.proofs.Own.{own-of_all}
use Rattle.mrp_peg.proofs.pegging.needs_of.Goals as goal

pub listed_needs-requires-clause-own : goal.listed_needs-requires-clause-own
listed_needs-requires-clause-own c =
    let s = c.args.plan.now.inputs in
    let i = c.args.item in
    let code = slice_index c.shop-ranked.result.now.codes in
    let e : c.deref-inputs.result.now ≡ s = c.deref-inputs.ensures ∙ c.inputs.ensures.inputs in
    let R : Inputs → Type 0 = λ x. IsRanked x code in
    own-of_all s i code c.args.plan.now.plans (subst R e c.shop-ranked.ensures.ranked) (subst HasParents e c.shop-ranked.ensures.parents) c.inputs.ensures.plan c.requires

pub listed_needs-requires-clause-within : goal.listed_needs-requires-clause-within
listed_needs-requires-clause-within c =
    let s = c.args.plan.now.inputs in
    let code = slice_index c.shop-ranked.result.now.codes in
    let e : c.deref-inputs.result.now ≡ s = c.deref-inputs.ensures ∙ c.inputs.ensures.inputs in
    let R : Inputs → Type 0 = λ x. IsRanked x code in
    let B : Inputs → Type 0 = λ x. AreBooked (supply_of x.tables) x.standing in
    requirements_within s c.args.item code (subst R e c.shop-ranked.ensures.ranked) (subst B e c.snapshot-booked.ensures.booked)
    (services_within s c.deref-inputs.result.now c.args.item c.services-services.result.now e c.services-services.ensures.dues c.services-services.ensures.within)

pub returns-clause-needs : goal.returns-clause-needs
returns-clause-needs c =
    let s = c.args.plan.now.inputs in
    let i = c.args.item in
    let code = slice_index c.shop-ranked.result.now.codes in
    let e : c.deref-inputs.result.now ≡ s = c.deref-inputs.ensures ∙ c.inputs.ensures.inputs in
    let R : Inputs → Type 0 = λ x. IsRanked x code in
    let are = requirements_are s i (own-of_all s i code c.args.plan.now.plans (subst R e c.shop-ranked.ensures.ranked) (subst HasParents e c.shop-ranked.ensures.parents) c.inputs.ensures.plan c.requires) in
    IfOk-weaker c.listed_needs.result _ _ (λ needs told. ap amounts_required told ∙ are) c.listed_needs.ensures.needs

pub returns-clause-covered : goal.returns-clause-covered
returns-clause-covered c =
    let s = c.args.plan.now.inputs in
    let i = c.args.item in
    let code = slice_index c.shop-ranked.result.now.codes in
    let e : c.deref-inputs.result.now ≡ s = c.deref-inputs.ensures ∙ c.inputs.ensures.inputs in
    let R : Inputs → Type 0 = λ x. IsRanked x code in
    always_ok c.listed_needs.result
    (covered_item s i (own-of_all s i code c.args.plan.now.plans (subst R e c.shop-ranked.ensures.ranked) (subst HasParents e c.shop-ranked.ensures.parents) c.inputs.ensures.plan c.requires) c.listed_needs.ensures.sized)
