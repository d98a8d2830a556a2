use Rattle.std.proofs.Common.{◌≡◌, ◌≤◌, ◌+◌, ◌-◌}
use Rattle.mrp_master.specs.Nodes.{ReadsAtMost, height}
use Rattle.mrp_master.proofs.Promised.{IsWalk}
use Rattle.mrp_master.proofs.nodes.earliest_in.Given as goal

abbrev pub invariant-loop-node : goal.invariant-loop-node
invariant-loop-node g l = record {
  same : g.N.Nodes.of_row l.nodes ≡ g.N.Nodes.of_row l.fn.nodes;
  count : g.N.Nodes.count l.nodes + height l.node ≤ g.N.Nodes.count l.fn.nodes + 8;
  few : ReadsAtMost g.N.Nodes.is_read (8 - height l.node) l.fn.nodes l.nodes;
  walk : IsWalk (g.N.Nodes.of_row l.fn.nodes) l.fn.quantity l.node l.end;
}

abbrev pub decreases-loop-node : goal.decreases-loop-node
decreases-loop-node g l = 256 - l.node
