use Rattle.std.proofs.Common.{arith}
use Rattle.mrp_explode.proofs.Ended.{leave-finished}
use Rattle.mrp_explode.proofs.SideBySide.{all-numbers, made-new}
use Rattle.mrp_explode.proofs.workers.work_together.Goals as goal

pub put_to_work-requires-clause-new : goal.put_to_work-requires-clause-new
put_to_work-requires-clause-new g c κs within =
    let made = c.in_ok-board.ensures in
    made-new c.in_ok-board.board c.in_ok-board.hired.items c.args.workers made.count made.workers

pub close-requires-clause-all : goal.close-requires-clause-all
close-requires-clause-all g c n low high =
    let made = c.in_ok-board.ensures in
    all-numbers c.in_ok-board.board c.in_ok-board.hired.items c.in_ok-worked.worked.items c.args.workers made.count made.workers c.in_ok-worked.ensures n low (omega (arith, high, made.seats))

pub returns : goal.returns
returns g c =
    let made = c.in_ok-board.ensures in
    let closed = c.close in
    leave-finished c.args.inputs.now.value c.in_ok-board.board c.in_ok-board.hired.items c.in_ok-worked.worked.items c.args.workers closed.result.1 closed.result.0 made.board made.seats c.requires.0 made.count made.workers
    c.in_ok-worked.ensures closed.ensures.mine closed.ensures.in_range closed.ensures.legal
