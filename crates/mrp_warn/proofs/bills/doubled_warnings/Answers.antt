use Rattle.std.proofs.Common.{◌∙◌, ap}
use Rattle.std.specs.List.{zip}
use Rattle.std.proofs.lemmas.Result.{IfOk-weaker}
use Rattle.mrp_warn.specs.Bills.{odd_pair, same_pair}
use Rattle.mrp_warn.specs.Rows.{earlier, told}
use Rattle.mrp_warn.proofs.bills.doubled_warnings.Goals as goal

pub returns : goal.returns
returns c =
    let firsts = c.deref-2.ensures.value ∙ c.in_ok-firsts.ensures ∙ ap (earlier same_pair) (c.deref.ensures.value ∙ c.in_ok-pairs.ensures) in
    IfOk-weaker c.told_pairs.result _ _ (λ own is. is ∙ (λ i. told (λ _ r. odd_pair c.args.items.now r.0 r.1) (zip c.args.bills.now (firsts i)))) c.told_pairs.ensures
