use Rattle.std.proofs.Common.{◌+◌, ◌≤◌, arith, length}
use Rattle.mrp_rows.proofs.PlainStops.{stop-behind, stop-here}
use Rattle.mrp_rows.proofs.plain_lines.next_stop.Goals as goal

pub returns-then-front-lt-BLOCK : goal.returns-then-front-lt-BLOCK
returns-then-front-lt-BLOCK c =
    let room : c.loop-at.at + 16 ≤ length c.args.text.now = omega (arith, c.loop-at-test.true, c.loop-at.invariant.within) in
    let here = stop-here c.args.text.now c.loop-at.at c.front_in_block-front.result 16 room c.front_in_block-front.ensures c.if-front-lt-BLOCK.true in
    record { within = omega (arith, room, c.if-front-lt-BLOCK.true); first = omega (arith, here, c.loop-at.invariant.first) }

pub loop-at-preserved : goal.loop-at-preserved
loop-at-preserved c =
    let room : c.loop-at.at + 16 ≤ length c.args.text.now = omega (arith, c.loop-at-test.true, c.loop-at.invariant.within) in
    let behind = stop-behind c.args.text.now c.loop-at.at c.front_in_block-front.result 16 room c.front_in_block-front.ensures c.if-front-lt-BLOCK.false in
    record { within = room; first = omega (arith, behind, c.loop-at.invariant.first) }
