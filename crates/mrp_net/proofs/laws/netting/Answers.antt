use Rattle.mrp_net.proofs.NetLaws.{recurrence, recurrence_balance, need_rises}
use Rattle.mrp_net.proofs.laws.netting.Goals as goal

pub returns-clause-need : goal.returns-clause-need
returns-clause-need c = recurrence

pub returns-clause-balance : goal.returns-clause-balance
returns-clause-balance c = recurrence_balance

pub returns-clause-rises : goal.returns-clause-rises
returns-clause-rises c = need_rises
