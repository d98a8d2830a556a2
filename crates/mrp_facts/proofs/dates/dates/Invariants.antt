use Rattle.std.proofs.Common.{◌≡◌, ℕ, length, map}
use Rattle.std.specs.Prelude.{string_bytes}
use Rattle.std.specs.Int.{IsInRange}
use Rattle.mrp_facts.specs.Dates.{IsDateOf, in_week}
use Rattle.mrp_facts.proofs.dates.dates.Given as goal

abbrev pub invariant-loop-week : goal.invariant-loop-week
invariant-loop-week l = record {
  count : length (map string_bytes l.dates.items) ≡ l.week;
  each : (week : ℕ) → IsInRange 1 l.week week → IsDateOf l.fn.calendar week (in_week (map string_bytes l.dates.items) week);
}
