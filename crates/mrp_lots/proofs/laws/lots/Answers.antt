use Rattle.mrp_lots.specs.LotLaws.{covers, idle, rises}
use Rattle.mrp_lots.proofs.laws.lots.Goals as goal

pub returns-clause-covers : goal.returns-clause-covers
returns-clause-covers c = covers

pub returns-clause-idle : goal.returns-clause-idle
returns-clause-idle c = idle

pub returns-clause-rises : goal.returns-clause-rises
returns-clause-rises c = rises
