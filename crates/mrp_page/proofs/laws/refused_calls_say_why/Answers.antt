use Rattle.mrp_page.proofs.RefusedCalls.{asks-itself, names-booking, says-short, says-standing, says-yours}
use Rattle.mrp_page.proofs.laws.refused_calls_say_why.Goals as goal

pub returns-clause-short : goal.returns-clause-short
returns-clause-short c = says-short

pub returns-clause-not_standing : goal.returns-clause-not_standing
returns-clause-not_standing c = says-standing

pub returns-clause-not_yours : goal.returns-clause-not_yours
returns-clause-not_yours c = says-yours

pub returns-clause-booking : goal.returns-clause-booking
returns-clause-booking c = names-booking

pub returns-clause-itself : goal.returns-clause-itself
returns-clause-itself c = asks-itself
