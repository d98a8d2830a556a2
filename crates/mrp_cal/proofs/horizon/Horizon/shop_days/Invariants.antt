use Rattle.std.proofs.Common.{◌≡◌, ◌≤◌, ℕ, ◌+◌, map}
use Rattle.std.specs.List.{count_by, range_with_len}
use Rattle.mrp_cal.specs.ShopDays.{is_shop_day}
use Rattle.mrp_cal.proofs.horizon.Horizon.shop_days.Given as goal

abbrev pub invariant-loop-weekday : goal.invariant-loop-weekday
invariant-loop-weekday l = record {
  counted : l.shop_days ≡ count_by (is_shop_day l.self) (map (λ (weekday : ℕ). l.first + weekday) (range_with_len 0 l.weekday));
  within : l.shop_days ≤ l.weekday;
}
