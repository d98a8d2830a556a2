use Rattle.std.proofs.Common.{get_or, refl, arith}
use Rattle.mrp_inspect.proofs.Counting.{counted-end, counted-next, line-most}
use Rattle.mrp_inspect.proofs.lines.Counter.behind.Goals as goal

pub loop-byte-preserved : goal.loop-byte-preserved
loop-byte-preserved c =
    let xs = c.args.bytes.now in
    let i = c.loop-byte.byte-index in
    let k = c.loop-byte.counter in
    rw (c.after-counter.ensures) (record {
      counted = counted-next k xs i _ _ c.loop-byte-test.true refl c.loop-byte.invariant.counted;
      most = omega (arith, line-most k (get_or xs i 0), c.loop-byte.invariant.most);
    })

pub returns-clause-all : goal.returns-clause-all
returns-clause-all c = counted-end c.loop-byte.counter c.args.bytes.now c.loop-byte.byte-index _ c.loop-byte-test.false c.loop-byte.invariant.counted
