use Rattle.std.proofs.Common.{◌≡◌}
use Rattle.mrp_advice.specs.Dates.{days_after}
use Rattle.mrp_advice.proofs.date.six_days_after.Given as goal

abbrev pub invariant-loop-weekday : goal.invariant-loop-weekday
invariant-loop-weekday l = l.day ≡ days_after l.weekday l.fn.monday
