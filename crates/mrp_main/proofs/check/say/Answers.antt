use Rattle.std.proofs.Common.{inl, inr, refl}
use Rattle.mrp_main.proofs.check.say.Goals as goal

pub returns-in-Ok : goal.returns-in-Ok
returns-in-Ok g c = inl (refl, c.in-Ok.ensures.whole)

pub returns-in-Err : goal.returns-in-Err
returns-in-Err g c = inr (refl, c.in-Err.ensures.gave_up, c.in-Err.ensures.front)
