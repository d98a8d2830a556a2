use Rattle.std.proofs.Common.{◌∙◌, ap}
use Rattle.std.proofs.lemmas.Result.{IfOk-weaker}
use Rattle.mrp_warn.specs.declared.limits.TheConstants as limits
use Rattle.mrp_warn.specs.Items.{odd_scrap}
use Rattle.mrp_warn.specs.Rows.{first_likely, told}
use Rattle.mrp_warn.proofs.items.scrap_warnings.Goals as goal

pub returns : goal.returns
returns c =
    let values = c.deref-2.ensures.value ∙ c.in_ok-scraps.ensures in
    let likely = c.first_likely-likely.ensures ∙ ap (first_likely limits.LIKELY_SCRAP limits.LIKELY_MOST_SCRAP) (c.deref.ensures.value ∙ c.in_ok-scraps.ensures) in
    IfOk-weaker c.told_scraps.result _ _ (λ own is. is ∙ (λ i. told (odd_scrap (likely i)) (values i))) c.told_scraps.ensures
