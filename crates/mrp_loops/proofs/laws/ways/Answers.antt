use Rattle.mrp_loops.proofs.Lawful.{way-first, way-last, way-next}
use Rattle.mrp_loops.proofs.laws.ways.Goals as goal

pub returns-clause-first : goal.returns-clause-first
returns-clause-first c = way-first

pub returns-clause-next : goal.returns-clause-next
returns-clause-next c = way-next

pub returns-clause-last : goal.returns-clause-last
returns-clause-last c = way-last
