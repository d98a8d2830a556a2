use Rattle.std.proofs.Common.{◌≡◌, ◌*◌, ◌≤◌}
use Rattle.mrp_cal.specs.Releases.{first_shop_day}
use Rattle.mrp_warn.proofs.items.last_weeks_shop_day.Given as goal

abbrev pub invariant-loop-week : goal.invariant-loop-week
invariant-loop-week l = (l.next ≡ first_shop_day l.calendar l.week) × (l.next ≤ 7 * l.week)
