use Rattle.std.proofs.Common.{◌≡◌, ◌≤◌, ◌<◌, ◌-◌, ℕ, get_or, false, length}
use Rattle.mrp_rows.proofs.SplitLines.{opens_line}
use Rattle.mrp_rows.proofs.bundle.before_section.Given as goal

abbrev pub invariant-loop-at : goal.invariant-loop-at
invariant-loop-at l = record {
  within : l.at ≤ length l.bytes;
  bracket : l.at < length l.bytes → get_or l.bytes l.at 0 ≡ 91;
  before : (k : ℕ) → k < l.at → get_or l.bytes k 0 ≡ 91 → opens_line l.bytes k ≡ false;
}

abbrev pub decreases-loop-at : goal.decreases-loop-at
decreases-loop-at l = length l.bytes - l.at
