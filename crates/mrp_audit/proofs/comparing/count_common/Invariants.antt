use Rattle.std.proofs.Common.{◌≡◌, ◌≤◌, ◌-◌, length, take}
use Rattle.mrp_audit.proofs.comparing.count_common.Given as goal

abbrev pub invariant-loop-equal : goal.invariant-loop-equal
invariant-loop-equal l = (l.equal ≤ length l.text) × (l.equal ≤ length l.other) × (take l.equal l.text ≡ take l.equal l.other)

abbrev pub decreases-loop-equal : goal.decreases-loop-equal
decreases-loop-equal l = length l.text - l.equal
