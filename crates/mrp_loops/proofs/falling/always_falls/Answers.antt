use Rattle.mrp_loops.proofs.Orders.{no-loop}
use Rattle.mrp_loops.proofs.falling.always_falls.Goals as goal

pub returns : goal.returns
returns c = λ is item needs. no-loop c.args.lines.now c.deref.result.now (c.always_rise.ensures is) item needs
