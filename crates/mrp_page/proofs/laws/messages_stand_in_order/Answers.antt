use Rattle.std.proofs.Common.{refl}
use Rattle.mrp_page.proofs.TodoKinds.{in-rises, late-falls}
use Rattle.mrp_page.proofs.laws.messages_stand_in_order.Goals as goal

pub returns-clause-past_due : goal.returns-clause-past_due
returns-clause-past_due c = late-falls

pub returns-clause-earlier : goal.returns-clause-earlier
returns-clause-earlier c = in-rises

pub returns-clause-value : goal.returns-clause-value
returns-clause-value c = λ message. refl
