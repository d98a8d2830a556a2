use Rattle.mrp_lots.specs.LotLaws.{fixed-covers, fixed-least}
use Rattle.mrp_lots.proofs.laws.fixed_lots.Goals as goal

pub returns-clause-covers : goal.returns-clause-covers
returns-clause-covers c = fixed-covers

pub returns-clause-least : goal.returns-clause-least
returns-clause-least c = fixed-least
