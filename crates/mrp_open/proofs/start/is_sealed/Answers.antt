use Rattle.std.proofs.Common.{Err, ap}
use Rattle.mrp_open.proofs.Starting.{sum-unread}
use Rattle.mrp_open.proofs.start.is_sealed.Goals as goal

pub returns-clause-other : goal.returns-clause-other
returns-clause-other g c =
    sum-unread (g.F.FileStore.known c.args.files.now) c.args.folder.now c.args.records c.args.sum.now c.in-Err.fault c.of_read.result c.of_read.ensures (λ e. c.in-Err.ensures.past (ap Err e))
