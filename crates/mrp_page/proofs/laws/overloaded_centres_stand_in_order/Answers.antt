use Rattle.std.proofs.Common.{refl}
use Rattle.mrp_page.proofs.OverloadedCentres.{first-stand, once, rate-exact, rate-most, rates-fall, total-is}
use Rattle.mrp_page.proofs.laws.overloaded_centres_stand_in_order.Goals as goal

pub returns-clause-once : goal.returns-clause-once
returns-clause-once c = once

pub returns-clause-order : goal.returns-clause-order
returns-clause-order c = rates-fall

pub returns-clause-rate : goal.returns-clause-rate
returns-clause-rate c = λ rows. refl

pub returns-clause-exact : goal.returns-clause-exact
returns-clause-exact c = rate-exact

pub returns-clause-without : goal.returns-clause-without
returns-clause-without c = rate-most

pub returns-clause-total : goal.returns-clause-total
returns-clause-total c = total-is

pub returns-clause-shown : goal.returns-clause-shown
returns-clause-shown c = first-stand
