use Rattle.std.proofs.Common.{refl}
use Rattle.mrp_open.specs.Disk.{opening_of}
use Rattle.mrp_open.proofs.beside.count_end.Goals as goal

pub returns-else-matches-clause-same : goal.returns-else-matches-clause-same
returns-else-matches-clause-same g c = ((opening_of c.args.place.now).failures, refl)
