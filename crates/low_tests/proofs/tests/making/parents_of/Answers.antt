use Rattle.std.proofs.Common.{◌≡◌, ◌∙◌, ◌<◌, length, get_or, arith}
use Rattle.mrp_item.specs.Made.{item_from}
use Rattle.mrp_item.proofs.OutcomeLists.{item-at, items-next, length-items}
use Rattle.low_tests.proofs.tests.making.parents_of.Goals as goal

pub loop-parent-preserved : goal.loop-parent-preserved
loop-parent-preserved c =
    let s = c.args.inputs.now in
    let before = c.args.before.now in
    let parents = c.parents-parents.result.now in
    let index = c.loop-parent.parent-index in
    let parent = get_or parents index 0 in
    let there : parent < c.args.item = omega (arith, c.if-parent-before.false, length-items s c.args.item before c.requires.before) in
    let copy : c.in_ok-copy.copy ≡ item_from s parent = c.in_ok-copy.ensures ∙ item-at s c.args.item parent before c.index-before-parent.result c.requires.before there c.index-before-parent.is in
    items-next s c.loop-parent.copies.items c.push.new.self.items c.in_ok-copy.copy parents index c.loop-parent-test.true c.loop-parent.invariant c.in_ok-push.ensures.items copy
