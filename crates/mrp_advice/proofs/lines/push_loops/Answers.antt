use Rattle.mrp_advice.specs.Loops.{loop_line}
use Rattle.mrp_advice.proofs.Listings.{last-of, next-of}
use Rattle.mrp_advice.proofs.lines.push_loops.Goals as goal

pub loop-found-preserved : goal.loop-found-preserved
loop-found-preserved c =
    next-of loop_line c.args.loops.now c.loop-found.found-index c.found-item.result _ _ _ _ c.loop-found-test.true c.found-item.is c.in_ok-push_loop.ensures c.loop-found.invariant

pub returns : goal.returns
returns c = last-of loop_line c.args.loops.now c.loop-found.found-index _ _ c.loop-found-test.false c.loop-found.invariant
