use Rattle.std.proofs.Common.{arith}
use Rattle.std.proofs.lemmas.Fmt.{length-decimal-le}
use Rattle.mrp_report.proofs.page.number.put_small.Goals as goal

pub put_front-requires : goal.put_front-requires
put_front-requires c = (omega arith, omega arith, omega (arith, length-decimal-le 3 c.args.n (omega arith) (omega arith) (omega arith)))
