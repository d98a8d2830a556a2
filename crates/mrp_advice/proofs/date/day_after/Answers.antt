use Rattle.std.proofs.Common.{sym}
use Rattle.std.proofs.lemmas.Bool.{false≢true}
use Rattle.mrp_advice.proofs.Days.{day_after-is, day_after-last}
use Rattle.mrp_advice.proofs.date.day_after.Goals as goal

pub returns-in-Ok : goal.returns-in-Ok
returns-in-Ok c = day_after-is c.args.date c.in-Ok.next c.in-Ok.ensures.value

pub returns-in-Err : goal.returns-in-Err
returns-in-Err c = sym (day_after-last c.args.date (λ below. false≢true (c.in-Err.ensures.succeeds.1 below)))
