use Rattle.std.proofs.Common.{◌∙◌, ◌++◌, ap, sym, map}
use Rattle.mrp_bill.specs.BillLists.{of_parent}
use Rattle.mrp_bill.specs.Grouped.{listed}
use Rattle.mrp_bill.proofs.BillRows.{by_components, by_components-more}
use Rattle.mrp_bill.proofs.lists.all.numbered_parents.Goals as goal

pub loop-parent-preserved : goal.loop-parent-preserved
loop-parent-preserved c =
    let parent = c.loop-parent.parent in
    let components = listed c.args.children.now in
    c.in_ok-number_by_components.ensures
    ∙ ap (λ rows. rows ++ map (of_parent parent) c.group.result.now) c.loop-parent.invariant
    ∙ ap (λ group. by_components components parent ++ map (of_parent parent) group) c.group.ensures
    ∙ sym (by_components-more components parent)
