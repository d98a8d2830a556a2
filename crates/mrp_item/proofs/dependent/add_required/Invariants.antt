use Rattle.std.proofs.Common.{◌≡◌, ◌<◌, ◌≤◌, ◌+◌, ℕ, get_or}
use Rattle.std.specs.Prelude.{sum_by}
use Rattle.mrp_item.specs.DependentDemand.{required_in}
use Rattle.mrp_item.proofs.dependent.add_required.Given as goal

abbrev pub invariant-loop-before : goal.invariant-loop-before
invariant-loop-before l = record {
  done : (k : ℕ) → k < l.before → get_or l.demand k 0 ≡ get_or l.initial.demand k 0 + sum_by (required_in (k + 1)) l.lines;
  left : (k : ℕ) → l.before ≤ k → get_or l.demand k 0 ≡ get_or l.initial.demand k 0;
}
