use Rattle.std.proofs.Common.{arith}
use Rattle.mrp_peg.proofs.needs_left.are_few.Goals as goal

pub line-requires : goal.line-requires
line-requires c = omega (arith, c.loop-at-test.true, c.len.ensures)
