use Rattle.std.proofs.Common.{◌≡◌, ◌∙◌, sym}
use Rattle.std.specs.Prelude.{slice_index}
use Rattle.mrp_item.proofs.OwnPlan.{blocked}
use Rattle.mrp_item.proofs.planning.plan_among.Goals as goal

pub blocked-requires : goal.blocked-requires
blocked-requires g c =
    let s = c.args.inputs.now.value in
    let i = c.args.item in
    let same : c.in_ok-source.source.value ≡ s = c.in_ok-source.ensures.cases in
    let ranked = rw (c.deref.ensures ∙ same) at c.shop-ranked.ensures.ranked in
    let lacks = rw c.deref-2.ensures at (sym c.are_planned.ensures ∙ c.if-not-are_planned.true) in
    rw same (blocked s (slice_index c.shop-ranked.result.now.codes) i ranked lacks)
