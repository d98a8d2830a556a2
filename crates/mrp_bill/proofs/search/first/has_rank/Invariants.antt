use Rattle.std.proofs.Common.{◌≡◌, ◌<◌, ℕ, slice_index}
use Rattle.mrp_bill.proofs.search.first.has_rank.Given as goal

abbrev pub invariant-loop-parent : goal.invariant-loop-parent
invariant-loop-parent l = (k : ℕ) → k < l.parent-index → slice_index l.ranks (slice_index l.parents k) ≡ l.rank → ⊥
