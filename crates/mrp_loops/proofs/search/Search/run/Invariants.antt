use Rattle.std.proofs.Common.{◌-◌, ◌≤◌, length}
use Rattle.mrp_loops.specs.Search.{IsSearch}
use Rattle.mrp_loops.proofs.search.Search.run.Given as goal

abbrev pub invariant-loop-next : goal.invariant-loop-next
invariant-loop-next l = record {
  search : IsSearch l.links.lines.items l.ranks l.from l.next l.self;
  within : l.next ≤ length l.self.met.items;
}

abbrev pub decreases-loop-next : goal.decreases-loop-next
decreases-loop-next l = length l.ranks - l.next
