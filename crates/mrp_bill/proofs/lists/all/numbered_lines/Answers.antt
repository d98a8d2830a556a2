use Rattle.std.proofs.Common.{◌∙◌, ◌++◌, ◌∷◌, [], ap, sym, arith}
use Rattle.std.proofs.lemmas.List.FromFn.{map-range_with_len_more}
use Rattle.mrp_bill.specs.BillLists.{to_component}
use Rattle.mrp_bill.proofs.lists.all.numbered_lines.Goals as goal

pub loop-place-preserved : goal.loop-place-preserved
loop-place-preserved c =
    let row = to_component c.args.lines.now in
    let place = c.loop-place.place in
    c.in_ok-push.ensures.items ∙ ap (λ rows. rows ++ row place ∷ []) c.loop-place.invariant ∙ sym (map-range_with_len_more row 0 place place (omega arith))
