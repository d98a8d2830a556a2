use Rattle.std.proofs.Common.{refl}
use Rattle.mrp_cal.proofs.ReleaseLaws.{released-on, released-rises, released-within}
use Rattle.mrp_cal.proofs.laws.releases.Goals as goal

pub returns : goal.returns
returns c = record { at_once = λ k due. refl; within = released-within; rises = released-rises; starts = released-on }
