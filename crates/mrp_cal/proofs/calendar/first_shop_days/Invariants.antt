use Rattle.std.proofs.Common.{◌≡◌, ◌≤◌, ◌<◌, ℕ, ◌+◌, ◌*◌, length, get_or}
use Rattle.mrp_cal.specs.Releases.{first_shop_day}
use Rattle.mrp_cal.proofs.calendar.first_shop_days.Given as goal

abbrev pub invariant-loop-week : goal.invariant-loop-week
invariant-loop-week l = record {
  long : length l.first_shop_days ≡ 104;
  next : l.next ≡ first_shop_day l.horizon (l.week + 1);
  small : l.next ≤ 1 + 7 * l.week;
  set : (k : ℕ) → k < l.week → get_or l.first_shop_days k 0 ≡ first_shop_day l.horizon (k + 1);
}
