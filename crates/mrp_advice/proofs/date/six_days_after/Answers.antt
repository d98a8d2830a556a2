use Rattle.std.proofs.Common.{◌∙◌, ap, sym}
use Rattle.mrp_advice.specs.Dates.{day_after}
use Rattle.mrp_advice.proofs.Days.{days_after-next, days_after-none}
use Rattle.mrp_advice.proofs.date.six_days_after.Goals as goal

pub loop-weekday-init : goal.loop-weekday-init
loop-weekday-init c = sym (days_after-none c.args.monday)

pub loop-weekday-preserved : goal.loop-weekday-preserved
loop-weekday-preserved c = c.day_after-day.ensures ∙ ap day_after c.loop-weekday.invariant ∙ days_after-next c.loop-weekday.weekday c.args.monday
