use Rattle.std.proofs.Common.{◌≡◌, ◌<◌, ℕ, suc, slice_index}
use Rattle.std.specs.List.{Contains}
use Rattle.mrp_bill.proofs.codes.code_below.Given as goal

abbrev pub invariant-loop-parent : goal.invariant-loop-parent
invariant-loop-parent l = record {
  above : (k : ℕ) → k < l.parent-index → slice_index l.codes (slice_index l.parents k) < l.code;
  from_one : (n : ℕ) → l.code ≡ suc n → (p : ℕ) × Contains l.parents p × (slice_index l.codes p ≡ n);
}
