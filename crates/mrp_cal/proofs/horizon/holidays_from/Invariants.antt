use Rattle.std.proofs.Common.{◌≡◌, ℕ, ◌<◌, false, length, get_or, take}
use Rattle.std.specs.List.{list_any}
use Rattle.mrp_cal.specs.Calendar.{days_in, is_days_after}
use Rattle.mrp_cal.proofs.horizon.holidays_from.Given as goal

abbrev pub invariant-loop-holiday : goal.invariant-loop-holiday
invariant-loop-holiday l = record {
  long : length l.days ≡ 728;
  marked : (k : ℕ) → k < days_in l.weeks → get_or l.days k false ≡ list_any (is_days_after l.start k) (take l.holiday-index l.holidays);
}
