use Rattle.std.proofs.Common.{ap, ◌∙◌, refl}
use Rattle.mrp_item.specs.Made.{item_from}
use Rattle.mrp_explode.proofs.Gathered.{gathered-as}
use Rattle.mrp_explode.proofs.levels.outcomes_for.Goals as goal

pub returns : goal.returns
returns g c =
    let slice = ap (λ it. it.base.slice.now) c.map.ensures.base ∙ ap (λ it. it.slice.now) c.with_min_len.ensures.base ∙ c.par_iter.ensures in
    let (results, (refs, shown, each), all) = c.in_ok-collect.ensures in
    gathered-as (item_from c.args.finished.now.inputs) (item_from _) c.args.items.now refs results c.in_ok-collect.field-0 (shown ∙ slice) each all (λ item. rw (c.map.ensures.f) refl)
