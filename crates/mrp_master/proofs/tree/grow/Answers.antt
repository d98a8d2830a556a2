use Rattle.std.proofs.Common.{ℕ, ◌≡◌, ◌≤◌, ◌<◌, ◌-◌, List, inl, inr, length, length-set, set, subst, sym, ap, arith, ◌∙◌}
use Rattle.std.proofs.lemmas.Bool.{cases_eq}
use Rattle.mrp_master.specs.declared.nodes.Node.{Node}
use Rattle.mrp_master.specs.AtpRow.{AtpRow}
use Rattle.mrp_master.specs.Tree.{IsMade, made, row_of}
use Rattle.mrp_master.proofs.Trees.{made_new, made_other}
use Rattle.mrp_master.proofs.tree.grow.Goals as goal

pub loop-node-preserved : goal.loop-node-preserved
loop-node-preserved c =
    let r : AtpRow = row_of c.args.supply.now c.args.booked.now in
    let nodes : List Node = c.loop-node.nodes.items in
    let k : ℕ = c.loop-node.node - 1 in
    let some : 1 ≤ k = omega (arith, c.loop-node-test.true) in
    let there : k < length nodes = omega (arith, c.loop-node.invariant.size, c.loop-node.auto.node) in
    let new : c.node_of.result ≡ made r nodes k = c.node_of.ensures ∙ ap (λ xs. made r xs k) c.deref.ensures.value in
    record {
      size = length-set nodes k c.node_of.result ∙ c.loop-node.invariant.size;
      made = λ n from first within. elim (cases_eq n k) [
        | inl here ↦ subst (IsMade r (set nodes k c.node_of.result)) (sym here) (made_new r nodes k c.node_of.result some there new)
        | inr other ↦ made_other r nodes k c.node_of.result some there n other (λ inner. (omega arith, omega arith)) (c.loop-node.invariant.made n (omega arith) first within)
      ];
    }
