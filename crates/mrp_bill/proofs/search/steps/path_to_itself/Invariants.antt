use Rattle.std.proofs.Common.{◌≡◌, ◌≢◌, ◌+◌, ◌-◌, ◌<◌, ◌≤◌, ℕ, length}
use Rattle.mrp_bill.specs.Grouped.{IsListed}
use Rattle.mrp_bill.specs.Ranking.{unseen}
use Rattle.mrp_bill.specs.Search.{IsSearch, IsSeen, item_at}
use Rattle.mrp_bill.proofs.search.steps.path_to_itself.Given as goal

abbrev pub invariant-loop-next : goal.invariant-loop-next
invariant-loop-next l = record {
  search : IsSearch l.parents l.search;
  first : item_at l.search.met.items 0 ≡ l.item;
  within : l.next ≤ length l.search.met.items;
  above : (k : ℕ) → k < l.next → (p : ℕ) → IsListed l.parents p (item_at l.search.met.items k) → IsSeen l.search.seen.items p × (p ≢ l.item);
}

abbrev pub decreases-loop-next : goal.decreases-loop-next
decreases-loop-next l = (unseen l.search.seen.items + length l.search.met.items) - l.next
