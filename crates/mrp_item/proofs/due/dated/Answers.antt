use Rattle.std.proofs.Common.{◌∙◌, length, take, ap, arith}
use Rattle.std.proofs.lemmas.Result.{err_from_is_err_and}
use Rattle.mrp_phase.proofs.WeekRows.{length-row, in_week_row}
use Rattle.mrp_phase.specs.Weeks.{in_week}
use Rattle.mrp_item.specs.Dues.{due_sum}
use Rattle.mrp_item.proofs.DueLemmas.{dated_more, dated_none, due_sum_within, one_due, one_due-here}
use Rattle.mrp_item.proofs.due.dated.Goals as goal

pub loop-next-init : goal.loop-next-init
loop-next-init c = c.in_ok-due.ensures ∙ dated_none c.args.weeks

pub add_in-requires : goal.add_in-requires
add_in-requires c = ap length c.loop-next.invariant ∙ length-row (due_sum _) c.args.weeks

pub loop-next-preserved : goal.loop-next-preserved
loop-next-preserved c =
    (rw c.in_ok-or_over.ensures.found at c.add_in.ensures.added)
    ∙ dated_more c.args.dues.now c.loop-next.next-index c.next-item.result c.loop-next.due c.args.weeks c.loop-next-test.true c.next-item.is c.loop-next.invariant

pub returns-in_err-or_over-clause-over : goal.returns-in_err-or_over-clause-over
returns-in_err-or_over-clause-over c =
    let p = err_from_is_err_and c.from_residual-in_err-or_over.result c.from_residual-in_err-or_over.ensures.1 in
    let next = c.next-item.result in
    let none = rw c.in_err-or_over.ensures.found at c.add_in.ensures.none in
    let dues = c.args.dues.now in
    rw (p.1, p.2) (λ _. (
      next.week,
      none.0,
      none.1,
      omega (
        arith,
        none.2,
        ap (λ xs. in_week xs next.week) c.loop-next.invariant,
        in_week_row (due_sum (take c.loop-next.next-index dues)) c.args.weeks next.week none.0 none.1,
        due_sum_within dues c.loop-next.next-index next next.week c.loop-next-test.true,
        ap (one_due next.week) c.next-item.is,
        one_due-here next,
      ),
    ))
