use Rattle.std.proofs.Common.{◌∙◌, ◌<◌, length, sym, take_all, ap, arith, List}
use Rattle.mrp_item.specs.declared.due.Due.{Due}
use Rattle.mrp_item.specs.Dues.{due_sum}
use Rattle.mrp_item.proofs.DueSums.{bound-more, none-due, sums-more}
use Rattle.mrp_item.proofs.due.add_up.Goals as goal

pub loop-due-init : goal.loop-due-init
loop-due-init c = record { summed = λ week. c.requires.zeros week ∙ sym (none-due c.args.dues.now week); bounded = λ week. omega (arith, c.requires.zeros week) }

pub loop-due-preserved : goal.loop-due-preserved
loop-due-preserved c =
    let d = c.due-item.result in
    let k = c.loop-due.due-index in
    let at = c.from-in-loop-due.result in
    let here = c.requires.dues k d c.loop-due-test.true in
    let within : at < length c.loop-due.sums = omega (arith, here.1, ap (λ (x : Due). x.week) c.due-item.is, c.from-in-loop-due.ensures, c.requires.weeks, c.loop-due.auto.sums) in
    record {
      summed = sums-more c.loop-due.sums c.args.dues.now k d at c.from.result c.loop-due-test.true c.due-item.is c.from-in-loop-due.ensures (c.from.ensures ∙ c.value.ensures.pieces) within c.loop-due.invariant.summed;
      bounded = bound-more c.loop-due.sums k at c.from.result _ (omega (arith, c.from.ensures, c.value.ensures.within)) within c.loop-due.invariant.bounded;
    }

pub returns : goal.returns
returns c = λ week. c.loop-due.invariant.summed week ∙ ap (λ (dues : List Due). due_sum dues week) (take_all c.loop-due.due-index c.args.dues.now c.loop-due-test.false)
