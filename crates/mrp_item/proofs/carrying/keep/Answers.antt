use Rattle.std.proofs.Common.{◌∙◌, sym, ap}
use Rattle.std.specs.Prelude.{slice_index}
use Rattle.mrp_item.specs.Places.{PlannedItem}
use Rattle.mrp_item.specs.Plan.{outcome_of}
use Rattle.mrp_item.proofs.Untouched.{same-outcome}
use Rattle.mrp_item.proofs.carrying.keep.Goals as goal

pub over-requires-clause-outcome : goal.over-requires-clause-outcome
over-requires-clause-outcome c =
    let old = c.args.old.now.inputs in
    let new = c.args.inputs.now.value in
    let ranked = rw c.deref.ensures at c.shop-ranked.ensures.ranked in
    ap (λ (p : PlannedItem). outcome_of p.inputs p.item) c.item.ensures
    ∙ same-outcome old new (slice_index c.shop-ranked.result.now.codes) ranked c.args.item c.requires.alone.same
    ∙ sym (ap (λ (p : PlannedItem). outcome_of new p.item) c.item.ensures)
