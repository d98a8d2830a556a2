use Rattle.std.proofs.Common.{◌<◌, ℕ, slice_index}
use Rattle.mrp_bill.specs.Search.{Extends, IsSearch, IsSeen}
use Rattle.mrp_bill.proofs.search.Search.meet_parents.Given as goal

abbrev pub invariant-loop-parent : goal.invariant-loop-parent
invariant-loop-parent l = record {
  search : IsSearch l.parents l.self;
  extends : Extends l.fn.self l.self;
  seen : (k : ℕ) → k < l.parent-index → IsSeen l.self.seen.items (slice_index l.parent-items k);
}
