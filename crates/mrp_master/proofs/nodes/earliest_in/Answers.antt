-- From the root to the last week up to which less than the quantity is uncommitted.
use Rattle.std.proofs.Common.{ℕ, ◌≡◌, ◌+◌, ◌-◌, ◌*◌, FitsSigned, w64, length, ℤ, ◌+ℤ◌, ◌-ℤ◌, Some, to_z, of_z, ap, subst, ◌∙◌, arith}
use Rattle.std.proofs.lemmas.Int.{ints}
use Rattle.mrp_master.specs.declared.nodes.Node.{Node}
use Rattle.mrp_master.specs.AtpRow.{AtpRow, IsEarliestIn}
use Rattle.mrp_master.specs.Nodes.{IsNode, IsPromiseRow, before, height, last}
use Rattle.mrp_master.proofs.Places.{halves, height_most, root_height}
use Rattle.mrp_master.proofs.Promised.{IsWalk, after_last, from_first, none_after, walk_later, walk_root, walk_sooner}
use Rattle.mrp_master.proofs.NodeReads.{at_most, one_more, one_read}
use Rattle.mrp_master.proofs.Spans.{covered_to, little_to, span_little}
use Rattle.mrp_master.proofs.nodes.earliest_in.Goals as goal

-- the sums of the walk, by a node read from the row, are within the code's integers
walk_fits : (r read : AtpRow) (quantity node n : ℕ) (end : ℤ) (later : Node) → IsPromiseRow r → IsWalk r quantity node end → read ≡ r → IsNode read n later
    → FitsSigned w64 later.sum × FitsSigned w64 later.least × FitsSigned w64 (end -ℤ later.sum) × FitsSigned w64 (end -ℤ later.sum +ℤ later.least)
walk_fits r read quantity node n end later kept w same x =
    let p = span_little r kept (before n) (before n + 1) (last n) later (subst (λ (x : AtpRow). IsNode x n later) same x) in
    let a = covered_to r kept (last node) in
    let b = little_to r kept (last node) in
    (omega (arith, ints, p), omega (arith, ints, p), omega (arith, ints, p, w.ends, a, b), omega (arith, ints, p, w.ends, a, b))

middle_is : (end sum : ℤ) → FitsSigned w64 sum → FitsSigned w64 (end -ℤ sum) → end -ℤ sum ≡ to_z w64 (of_z w64 (end -ℤ to_z w64 (of_z w64 sum)))
middle_is end sum f h = omega (arith, ints)

pub returns-then-wanted-root-clause-value : goal.returns-then-wanted-root-clause-value
returns-then-wanted-root-clause-value g c =
    let r : AtpRow = g.N.Nodes.of_row c.args.nodes.now in
    let root : Node = c.read-root.result in
    let p = span_little r c.requires (before 1) (before 1 + 1) (last 1) root c.read-root.ensures.value in
    from_first r c.requires c.args.quantity root c.read-root.ensures.value (omega (arith, ints, p, c.if-wanted-root.true, c.value-wanted.ensures.pieces, c.value-wanted.ensures.within))

pub loop-node-init : goal.loop-node-init
loop-node-init g c =
    let r : AtpRow = g.N.Nodes.of_row c.args.nodes.now in
    let root : Node = c.read-root.result in
    let p = span_little r c.requires (before 1) (before 1 + 1) (last 1) root c.read-root.ensures.value in
    let sum : root.sum ≡ to_z w64 (of_z w64 root.sum) = omega (arith, ints, p) in
    record {
      same = c.read-root.ensures.same;
      count = omega (arith, c.read-root.ensures.count, root_height);
      few = at_most g.N.Nodes.is_read 1 (8 - height 1) _ _ (one_read g.N.Nodes.is_read _ _ c.read-root.ensures.one) (omega (arith, root_height));
      walk =
          subst (IsWalk r c.args.quantity 1) sum
          (walk_root r c.requires c.args.quantity root c.read-root.ensures.value (omega (arith, ints, p, c.if-wanted-root.false, c.value-wanted.ensures.pieces, c.value-wanted.ensures.within)));
    }

pub overflow_sub-middle : goal.overflow_sub-middle
overflow_sub-middle g c =
    let r : AtpRow = g.N.Nodes.of_row c.args.nodes.now in
    let f = walk_fits r _ c.args.quantity c.loop-node.node (2 * c.loop-node.node + 1) _ c.read-later.result c.requires c.loop-node.invariant.walk c.loop-node.invariant.same c.read-later.ensures.value in
    omega (arith, ints, f.0, f.2)

pub overflow_add-middle : goal.overflow_add-middle
overflow_add-middle g c =
    let r : AtpRow = g.N.Nodes.of_row c.args.nodes.now in
    let f = walk_fits r _ c.args.quantity c.loop-node.node (2 * c.loop-node.node + 1) _ c.read-later.result c.requires c.loop-node.invariant.walk c.loop-node.invariant.same c.read-later.ensures.value in
    omega (arith, ints, f.0, f.1, f.2, f.3)

pub loop-node-preserved-then-middle-later : goal.loop-node-preserved-then-middle-later
loop-node-preserved-then-middle-later g c =
    let r : AtpRow = g.N.Nodes.of_row c.args.nodes.now in
    let node : ℕ = c.loop-node.node in
    let later : Node = c.read-later.result in
    let y : IsNode r (2 * node + 1) later = subst (λ (x : AtpRow). IsNode x (2 * node + 1) later) c.loop-node.invariant.same c.read-later.ensures.value in
    let f = walk_fits r _ c.args.quantity node (2 * node + 1) _ later c.requires c.loop-node.invariant.walk c.loop-node.invariant.same c.read-later.ensures.value in
    record {
      same = c.read-later.ensures.same ∙ c.loop-node.invariant.same;
      count = omega (arith, c.loop-node.invariant.count, c.read-later.ensures.count, (halves node c.loop-node.invariant.walk.first c.loop-node-test.true).right);
      few =
          one_more g.N.Nodes.is_read (8 - height node) (8 - height (2 * node + 1)) _ _ _ c.loop-node.invariant.few c.read-later.ensures.one
          (omega (arith, (halves node c.loop-node.invariant.walk.first c.loop-node-test.true).right, height_most node));
      walk =
          walk_later r c.requires c.args.quantity node _ later c.loop-node-test.true c.loop-node.invariant.walk y
          (omega (arith, ints, f.0, f.1, f.2, f.3, c.if-middle-later.true, c.value-wanted.ensures.pieces, c.value-wanted.ensures.within));
    }

pub loop-node-preserved : goal.loop-node-preserved
loop-node-preserved g c =
    let r : AtpRow = g.N.Nodes.of_row c.args.nodes.now in
    let node : ℕ = c.loop-node.node in
    let later : Node = c.read-later.result in
    let y : IsNode r (2 * node + 1) later = subst (λ (x : AtpRow). IsNode x (2 * node + 1) later) c.loop-node.invariant.same c.read-later.ensures.value in
    let f = walk_fits r _ c.args.quantity node (2 * node + 1) _ later c.requires c.loop-node.invariant.walk c.loop-node.invariant.same c.read-later.ensures.value in
    let twice : 2 * node ≡ node * 2 = omega arith in
    let middle : to_z w64 c.loop-node.end-bits -ℤ later.sum ≡ to_z w64 (of_z w64 (to_z w64 c.loop-node.end-bits -ℤ to_z w64 (of_z w64 later.sum))) = middle_is (to_z w64 c.loop-node.end-bits) later.sum f.0 f.2 in
    record {
      same = c.read-later.ensures.same ∙ c.loop-node.invariant.same;
      count = omega (arith, c.loop-node.invariant.count, c.read-later.ensures.count, (halves node c.loop-node.invariant.walk.first c.loop-node-test.true).left, ap height twice);
      few =
          one_more g.N.Nodes.is_read (8 - height node) (8 - height (node * 2)) _ _ _ c.loop-node.invariant.few c.read-later.ensures.one
          (omega (arith, (halves node c.loop-node.invariant.walk.first c.loop-node-test.true).left, ap height twice, height_most node));
      walk =
          subst (IsWalk r c.args.quantity (node * 2)) middle
          (subst (λ (k : ℕ). IsWalk r c.args.quantity k (to_z w64 c.loop-node.end-bits -ℤ later.sum)) twice
          (walk_sooner r c.requires c.args.quantity node _ later c.loop-node-test.true c.loop-node.invariant.walk y
          (omega (arith, ints, f.0, f.1, f.2, f.3, c.if-middle-later.false, c.value-wanted.ensures.pieces, c.value-wanted.ensures.within))));
    }

pub returns-then-last-weeks-clause-value : goal.returns-then-last-weeks-clause-value
returns-then-last-weeks-clause-value g c =
    let r : AtpRow = g.N.Nodes.of_row c.args.nodes.now in
    let node : ℕ = c.loop-node.node in
    let week : node - 127 ≡ c.from-last.result = omega (arith, c.from-last.ensures) in
    subst (λ (t : ℕ). IsEarliestIn r c.args.quantity (Some (t + 1))) week
    (after_last r c.requires c.args.quantity node _ c.loop-node-test.false c.loop-node.invariant.walk
    (omega (arith, week, c.if-last-weeks.true, c.weeks.ensures, ap (λ (x : AtpRow). length x.supply) c.loop-node.invariant.same)))

pub returns-else-last-weeks-clause-value : goal.returns-else-last-weeks-clause-value
returns-else-last-weeks-clause-value g c =
    let r : AtpRow = g.N.Nodes.of_row c.args.nodes.now in
    let node : ℕ = c.loop-node.node in
    none_after r c.requires c.args.quantity node _ c.loop-node-test.false c.loop-node.invariant.walk
    (omega (arith, c.from-last.ensures, c.if-last-weeks.false, c.weeks.ensures, ap (λ (x : AtpRow). length x.supply) c.loop-node.invariant.same))

pub returns-then-wanted-root-clause-few : goal.returns-then-wanted-root-clause-few
returns-then-wanted-root-clause-few g c = at_most g.N.Nodes.is_read 1 16 _ _ (one_read g.N.Nodes.is_read _ _ c.read-root.ensures.one) (omega arith)

pub returns-then-last-weeks-clause-few : goal.returns-then-last-weeks-clause-few
returns-then-last-weeks-clause-few g c = at_most g.N.Nodes.is_read (8 - height c.loop-node.node) 16 _ _ c.loop-node.invariant.few (omega arith)

pub returns-else-last-weeks-clause-few : goal.returns-else-last-weeks-clause-few
returns-else-last-weeks-clause-few g c = at_most g.N.Nodes.is_read (8 - height c.loop-node.node) 16 _ _ c.loop-node.invariant.few (omega arith)
