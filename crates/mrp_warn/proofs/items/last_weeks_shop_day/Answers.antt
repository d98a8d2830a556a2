use Rattle.std.proofs.Common.{arith, sym}
use Rattle.mrp_cal.proofs.FirstDays.{first_shop_day-first, first_shop_day-next}
use Rattle.mrp_warn.proofs.items.last_weeks_shop_day.Goals as goal

pub loop-week-init : goal.loop-week-init
loop-week-init c = (sym (first_shop_day-first c.args.calendar.now), omega arith)

pub loop-week-preserved : goal.loop-week-preserved
loop-week-preserved c =
    let own = first_shop_day-next c.args.calendar.now c.loop-week.week (omega arith) in
    (omega (arith, own, c.loop-week.invariant.0, c.shop_days.ensures.value, c.from-next.ensures), omega (arith, c.loop-week.invariant.1, c.shop_days.ensures.bound, c.from-next.ensures))
