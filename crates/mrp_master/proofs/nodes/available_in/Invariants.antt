use Rattle.std.proofs.Common.{◌≡◌, ◌≤◌, ◌+◌}
use Rattle.mrp_master.specs.Nodes.{IsSpan, ReadsAtMost, before, height, last}
use Rattle.mrp_master.proofs.nodes.available_in.Given as goal

abbrev pub invariant-loop-node : goal.invariant-loop-node
invariant-loop-node g l = record {
  first : 1 ≤ l.node;
  same : g.N.Nodes.of_row l.nodes ≡ g.N.Nodes.of_row l.fn.nodes;
  count : g.N.Nodes.count l.nodes ≤ g.N.Nodes.count l.fn.nodes + 1 + height l.node;
  few : ReadsAtMost g.N.Nodes.is_read (1 + height l.node) l.fn.nodes l.nodes;
  since : IsSpan (g.N.Nodes.of_row l.fn.nodes) (before l.node) l.week (last l.node) l.since;
}

abbrev pub decreases-loop-node : goal.decreases-loop-node
decreases-loop-node g l = l.node
