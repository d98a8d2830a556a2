use Rattle.std.proofs.Common.{ℕ, ◌<◌, List, inl, inr, length, length-set, set, subst, sym, arith, ◌∙◌}
use Rattle.std.proofs.lemmas.Bool.{cases_eq}
use Rattle.mrp_master.specs.declared.nodes.Node.{Node}
use Rattle.mrp_master.specs.AtpRow.{AtpRow}
use Rattle.mrp_master.specs.Tree.{IsMade, row_of}
use Rattle.mrp_master.proofs.Trees.{made_new, made_other}
use Rattle.mrp_master.proofs.tree.renew.Goals as goal

pub node_of-requires-clause-below : goal.node_of-requires-clause-below
node_of-requires-clause-below c = λ n h k. c.loop-node.invariant.others n (omega arith) k (omega arith)

pub loop-node-preserved : goal.loop-node-preserved
loop-node-preserved c =
    let r : AtpRow = row_of c.args.supply.now c.args.booked.now in
    let nodes : List Node = c.loop-node.nodes in
    let k : ℕ = c.loop-node.node in
    let there : k < length nodes = omega (arith, c.loop-node.invariant.size, c.loop-node.invariant.within) in
    record {
      size = length-set nodes k c.node_of.result ∙ c.loop-node.invariant.size;
      within = omega (arith, c.loop-node.invariant.within);
      others = λ n some within apart. elim (cases_eq n k) [
        | inl here ↦ subst (IsMade r (set nodes k c.node_of.result)) (sym here) (made_new r nodes k c.node_of.result c.loop-node-test.true there c.node_of.ensures)
        | inr other ↦ made_other r nodes k c.node_of.result c.loop-node-test.true there n other (λ inner. (omega arith, omega arith)) (c.loop-node.invariant.others n some within other)
      ];
    }

pub returns : goal.returns
returns c = record {
  size = c.loop-node.invariant.size;
  made = λ n some within. c.loop-node.invariant.others n some within (omega (arith, c.loop-node-test.false));
}
