use Rattle.std.proofs.Common.{◌/◌, arith}
use Rattle.std.proofs.lemmas.Fmt.{length-decimal-le}
use Rattle.mrp_report.proofs.lemmas.page.Digits.{more}
use Rattle.mrp_report.proofs.lemmas.page.PlainCells.{plain}
use Rattle.mrp_report.proofs.lemmas.page.Puts.{put_then}
use Rattle.mrp_report.proofs.page.number.put_number.Goals as goal

pub put_group-requires : goal.put_group-requires
put_group-requires c = (
  omega arith,
  omega (arith, c.put_small-next.ensures.moved, c.put_small-next.ensures.len, length-decimal-le 3 (c.args.n / 1000) (omega arith) (omega arith) (omega arith)),
)

pub returns-then-n-lt1000-clause-near : goal.returns-then-n-lt1000-clause-near
returns-then-n-lt1000-clause-near c = omega (arith, c.put_small.ensures.moved, length-decimal-le 20 c.args.n (omega arith) (omega arith) (omega arith))

pub returns-then-n-lt1000-clause-put : goal.returns-then-n-lt1000-clause-put
returns-then-n-lt1000-clause-put c = rw (plain c.args.n c.ranges.n.fits) c.put_small.ensures

pub returns-then-n-lt1000000-clause-put : goal.returns-then-n-lt1000000-clause-put
returns-then-n-lt1000000-clause-put c =
    rw (plain c.args.n c.ranges.n.fits, more c.args.n (omega arith) (omega arith)) (put_then c.put_small-next.ensures c.put_group.ensures)

pub returns-else-n-lt1000000-clause-put : goal.returns-else-n-lt1000000-clause-put
returns-else-n-lt1000000-clause-put c = rw (plain c.args.n c.ranges.n.fits) c.put_large.ensures

pub returns-then-n-lt1000000-clause-near : goal.returns-then-n-lt1000000-clause-near
returns-then-n-lt1000000-clause-near c =
    omega (arith, c.put_small-next.ensures.moved, c.put_group.ensures.moved, length-decimal-le 3 (c.args.n / 1000) (omega arith) (omega arith) (omega arith))

pub returns-else-n-lt1000000-clause-near : goal.returns-else-n-lt1000000-clause-near
returns-else-n-lt1000000-clause-near c = omega (arith, c.put_large.ensures.moved, length-decimal-le 20 c.args.n (omega arith) (omega arith) (omega arith))
