use Rattle.std.proofs.Common.{◌≡◌, ◌<◌, ◌∙◌, length, pos, ap, subst, sym, arith}
use Rattle.std.proofs.lemmas.List.{get_or_read}
use Rattle.mrp_master.specs.AtpRow.{AtpRow}
use Rattle.mrp_master.specs.Nodes.{IsNode}
use Rattle.mrp_master.specs.Tree.{node_at, row_of}
use Rattle.mrp_master.proofs.Trees.{tree_node}
use Rattle.mrp_master.proofs.atp_row.AtpRow.node.Goals as goal

pub returns : goal.returns
returns c =
    let nodes = c.self.inside.nodes.items in
    let r : AtpRow = row_of c.self.inside.supply.items c.self.inside.booked.items in
    let there : c.from.result < length nodes = omega (arith, c.from.ensures, c.self.invariant.tree.size, c.ranges.node.fits) in
    let is : node_at nodes c.args.node ≡ c.index.result.now = ap (node_at nodes) (sym c.from.ensures) ∙ sym (get_or_read nodes c.from.result c.index.result.now there c.index.ensures (record { sum = pos 0; least = pos 0 })) in
    subst (λ x. IsNode x c.args.node c.index.result.now) c.self.view_is
    (subst (IsNode r c.args.node) is (tree_node r nodes c.args.node c.self.invariant.tree c.requires (omega (arith, there, c.from.ensures, c.self.invariant.tree.size))))
