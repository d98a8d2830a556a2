use Rattle.std.proofs.Common.{arith, ◌++◌, ◌∙◌}
use Rattle.mrp_rows.proofs.StreamFronts.{takes-more}
use Rattle.mrp_rows.proofs.streams.read_within.Goals as goal

pub loop-preserved : goal.loop-preserved
loop-preserved g c =
    let behind = c.in_ok-read_piece.ensures.behind in
    record {
      taken = rw behind.1 (takes-more _ _ _ _ _ _ _ _ c.loop.invariant.taken behind.2);
      within = omega arith;
      risen = omega (arith, c.loop.invariant.risen, c.in_ok-read_piece.ensures.calls);
      calls = omega (arith, c.in_ok-read_piece.ensures.calls);
      failures = c.in_ok-read_piece.ensures.failures ∙ c.loop.invariant.failures;
    }

pub returns-in_err-read_piece-clause-front : goal.returns-in_err-read_piece-clause-front
returns-in_err-read_piece-clause-front g c =
    let front = c.in_err-read_piece.ensures.front in
    (c.loop.bytes.items ++ front.0, takes-more _ _ _ _ _ _ _ _ c.loop.invariant.taken front.1)

pub returns-then-not-branch-clause-front : goal.returns-then-not-branch-clause-front
returns-then-not-branch-clause-front g c =
    let front = c.in_ok-read_piece.ensures.front in
    (c.loop.bytes.items ++ front.0, takes-more _ _ _ _ _ _ _ _ c.loop.invariant.taken front.1)

pub returns-then-len-most_bytes-clause-front : goal.returns-then-len-most_bytes-clause-front
returns-then-len-most_bytes-clause-front g c =
    let front = c.in_ok-read_piece.ensures.front in
    (c.loop.bytes.items ++ front.0, takes-more _ _ _ _ _ _ _ _ c.loop.invariant.taken front.1)
