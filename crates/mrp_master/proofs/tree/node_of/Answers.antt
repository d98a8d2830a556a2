-- The two nodes below are the net change of their weeks, so the sums of the two are within the code's integers.
use Rattle.std.proofs.Common.{ℕ, ◌+◌, ◌*◌, ◌≤◌, ◌<◌, FitsSigned, w64, ◌+ℤ◌, List, arith}
use Rattle.mrp_master.specs.declared.nodes.Node.{Node}
use Rattle.mrp_master.specs.AtpRow.{AtpRow}
use Rattle.mrp_master.specs.Nodes.{IsNode, IsPromiseRow, before, last}
use Rattle.mrp_master.specs.Tree.{IsMade, node_at, row_of}
use Rattle.mrp_master.proofs.Spans.{span_fits}
use Rattle.mrp_master.proofs.Trees.{nodes_from}
use Rattle.mrp_master.proofs.tree.node_of.Goals as goal

two_fit : (r : AtpRow) (nodes : List Node) (n : ℕ) → IsPromiseRow r → 1 ≤ n → n < 128 → ((m : ℕ) → n < m → m < 256 → IsMade r nodes m)
    → FitsSigned w64 ((node_at nodes (2 * n)).sum +ℤ (node_at nodes (2 * n + 1)).sum) × FitsSigned w64 ((node_at nodes (2 * n)).sum +ℤ (node_at nodes (2 * n + 1)).least)
two_fit r nodes n kept some inner below =
    let at : (m : ℕ) → n < m → m < 256 → IsNode r m (node_at nodes m) = λ m h k. nodes_from r nodes (n + 1) (λ i a b d. below i (omega arith) d) m (omega arith) (omega arith) k in
    span_fits r kept (before (2 * n)) (before (2 * n) + 1) (last (2 * n)) (before (2 * n + 1)) (before (2 * n + 1) + 1) (last (2 * n + 1)) (node_at nodes (2 * n)) (node_at nodes (2 * n + 1))
    (at (2 * n) (omega arith) (omega arith)) (at (2 * n + 1) (omega arith) (omega arith))

pub join-requires-clause-sum : goal.join-requires-clause-sum
join-requires-clause-sum c = (two_fit (row_of c.args.supply.now c.args.booked.now) c.args.nodes.now c.args.node c.requires.row c.requires.node.0 c.if-node-lt-FIRST_PLACE.true c.requires.below).0

pub join-requires-clause-least : goal.join-requires-clause-least
join-requires-clause-least c = (two_fit (row_of c.args.supply.now c.args.booked.now) c.args.nodes.now c.args.node c.requires.row c.requires.node.0 c.if-node-lt-FIRST_PLACE.true c.requires.below).1
