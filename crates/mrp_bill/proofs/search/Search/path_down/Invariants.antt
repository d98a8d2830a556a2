use Rattle.std.proofs.Common.{◌≡◌, ◌<◌, ◌∷◌, ℕ, List, length, map}
use Rattle.mrp_bill.specs.Links.{IsTrail}
use Rattle.mrp_bill.specs.Search.{IsBelow, item_at}
use Rattle.mrp_bill.proofs.search.Search.path_down.Given as goal

abbrev pub invariant-loop-at : goal.invariant-loop-at
invariant-loop-at l = record {
  within : l.at < length l.self.met.items;
  path : (places : List ℕ) × IsTrail (IsBelow l.self.met.items) l.from places l.at
      × (l.path.items ≡ item_at l.self.met.items 0 ∷ item_at l.self.met.items l.from ∷ map (item_at l.self.met.items) places);
}

abbrev pub decreases-loop-at : goal.decreases-loop-at
decreases-loop-at l = l.at
