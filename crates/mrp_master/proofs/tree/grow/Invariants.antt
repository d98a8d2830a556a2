use Rattle.std.proofs.Common.{ℕ, ◌≡◌, ◌≤◌, ◌<◌, length}
use Rattle.mrp_master.specs.Tree.{IsMade, row_of}
use Rattle.mrp_master.proofs.tree.grow.Given as goal

abbrev pub invariant-loop-node : goal.invariant-loop-node
invariant-loop-node l = record {
  size : length l.nodes.items ≡ 256;
  made : (n : ℕ) → l.node ≤ n → 1 ≤ n → n < 256 → IsMade (row_of l.supply l.booked) l.nodes.items n;
}
