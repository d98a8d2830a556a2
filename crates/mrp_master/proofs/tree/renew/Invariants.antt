use Rattle.std.proofs.Common.{ℕ, ◌≡◌, ◌≢◌, ◌≤◌, ◌<◌, length}
use Rattle.mrp_master.specs.Tree.{IsMade, row_of}
use Rattle.mrp_master.proofs.tree.renew.Given as goal

abbrev pub invariant-loop-node : goal.invariant-loop-node
invariant-loop-node l = record {
  size : length l.nodes ≡ 256;
  within : l.node < 256;
  others : (n : ℕ) → 1 ≤ n → n < 256 → n ≢ l.node → IsMade (row_of l.supply l.booked) l.nodes n;
}

abbrev pub decreases-loop-node : goal.decreases-loop-node
decreases-loop-node l = l.node
