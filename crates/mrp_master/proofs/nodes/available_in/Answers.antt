-- From a week's place to the root, with the net change of the weeks below and the least from the week on.
use Rattle.std.proofs.Common.{ℕ, ◌≡◌, ◌≤◌, ◌<◌, ◌+◌, ◌-◌, ◌*◌, ◌/◌, ap, refl, subst, ◌∙◌, arith}
use Rattle.std.proofs.lemmas.Int.{ints}
use Rattle.mrp_master.specs.declared.nodes.Node.{Node}
use Rattle.mrp_master.specs.AtpRow.{AtpRow}
use Rattle.mrp_master.specs.Nodes.{IsNode, IsSpan, before, height, last}
use Rattle.mrp_master.proofs.Places.{halves, height_most, place_before, root_before, root_last}
use Rattle.mrp_master.proofs.Promised.{span_available, span_natural}
use Rattle.mrp_master.proofs.NodeReads.{at_most, one_more, one_read}
use Rattle.mrp_master.proofs.Spans.{span_fits}
use Rattle.mrp_master.proofs.Trees.{from_left, from_right, span_at}
use Rattle.mrp_master.proofs.nodes.available_in.Goals as goal
use Rattle.mrp_master.proofs.nodes.available_in.Goals.{then-node-eq0, else-node-eq0}

pub loop-node-init : goal.loop-node-init
loop-node-init g c =
    let r : AtpRow = g.N.Nodes.of_row c.args.nodes.now in
    let n : ℕ = 127 + c.args.week in
    let place : 128 ≤ n = omega (arith, c.requires.week.0) in
    let start : before n + 1 ≡ c.args.week = omega (arith, place_before n place, c.requires.week.0) in
    record {
      first = omega arith;
      same = c.read-since.ensures.same;
      count = omega (arith, c.read-since.ensures.count);
      few = at_most g.N.Nodes.is_read 1 (1 + height n) _ _ (one_read g.N.Nodes.is_read _ _ c.read-since.ensures.one) (omega arith);
      since = span_at r (before n) (before n + 1) (last n) (before n) c.args.week (last n) c.read-since.result refl start refl c.read-since.ensures.value;
    }

pub join-since-requires : goal.join-since-requires
join-since-requires g c =
    let r : AtpRow = g.N.Nodes.of_row c.args.nodes.now in
    let y : IsNode r (c.loop-node.node + 1) c.read.result = subst (λ (x : AtpRow). IsNode x (c.loop-node.node + 1) c.read.result) c.loop-node.invariant.same c.read.ensures.value in
    let fits = span_fits r c.requires.row _ _ _ _ _ _ c.loop-node.since c.read.result c.loop-node.invariant.since y in
    record { sum = fits.0; least = fits.1 }

pub before-since-requires : goal.before-since-requires
before-since-requires g c =
    let r : AtpRow = g.N.Nodes.of_row c.args.nodes.now in
    let b : Node = c.read-else-node-eq0.result in
    let y : IsNode r (c.loop-node.node - 1) b = subst (λ (x : AtpRow). IsNode x (c.loop-node.node - 1) b) c.loop-node.invariant.same c.read-else-node-eq0.ensures.value in
    let fits = span_fits r c.requires.row _ _ _ _ _ _ b c.loop-node.since y c.loop-node.invariant.since in
    record { sum = fits.0; least = fits.1 }

pub loop-node-preserved : goal.loop-node-preserved
loop-node-preserved g c =
    let r : AtpRow = g.N.Nodes.of_row c.args.nodes.now in
    let n : ℕ = c.loop-node.node in
    let over : ℕ = n / 2 in
    let some : 1 ≤ over = omega (arith, c.loop-node-test.true) in
    let inner : over < 128 = omega (arith, c.loop-node.auto.node-fits) in
    let h = halves over some inner in
    elim c.if-node-eq0.branch [
      | then-node-eq0 w ↦
          let even : n ≡ 2 * over = omega (arith, w.if-node-eq0.true) in
          let y : IsNode r (n + 1) w.read.result = subst (λ (x : AtpRow). IsNode x (n + 1) w.read.result) c.loop-node.invariant.same w.read.ensures.value in
          record {
            first = some;
            same = rw w.nodes-is (w.read.ensures.same ∙ c.loop-node.invariant.same);
            count = rw w.nodes-is (omega (arith, c.loop-node.invariant.count, w.read.ensures.count, h.left, ap height even));
            few = rw w.nodes-is (one_more g.N.Nodes.is_read (1 + height n) (1 + height over) _ _ _ c.loop-node.invariant.few w.read.ensures.one (omega (arith, h.left, ap height even)));
            since = rw (w.since-is, w.join-since.ensures) (from_left r c.args.week over n (n + 1) c.loop-node.since w.read.result some inner c.loop-node.invariant.since y even (omega arith));
          }
      | else-node-eq0 w ↦
          let odd : n ≡ 2 * over + 1 = omega (arith, w.if-node-eq0.false) in
          let b : Node = w.read-else-node-eq0.result in
          let y : IsNode r (n - 1) b = subst (λ (x : AtpRow). IsNode x (n - 1) b) c.loop-node.invariant.same w.read-else-node-eq0.ensures.value in
          record {
            first = some;
            same = rw w.nodes-is (w.read-else-node-eq0.ensures.same ∙ c.loop-node.invariant.same);
            count = rw w.nodes-is (omega (arith, c.loop-node.invariant.count, w.read-else-node-eq0.ensures.count, h.right, ap height odd));
            few = rw w.nodes-is (one_more g.N.Nodes.is_read (1 + height n) (1 + height over) _ _ _ c.loop-node.invariant.few w.read-else-node-eq0.ensures.one (omega (arith, h.right, ap height odd)));
            since = rw (w.since-is, w.before-since.ensures) (from_right r c.args.week over n (n - 1) c.loop-node.since b some inner c.loop-node.invariant.since y odd (omega arith));
          }
    ]

-- at the root these are all weeks
all_since : (r : AtpRow) (week n : ℕ) (node : Node) → n ≡ 1 → IsSpan r (before n) week (last n) node → IsSpan r 0 week 128 node
all_since r week n node root x = span_at r (before n) week (last n) 0 week 128 node (ap before root ∙ root_before) refl (ap last root ∙ root_last) x

pub overflow_cast-since : goal.overflow_cast-since
overflow_cast-since g c =
    let r : AtpRow = g.N.Nodes.of_row c.args.nodes.now in
    let root : c.loop-node.node ≡ 1 = omega (arith, c.loop-node.invariant.first, c.loop-node-test.false) in
    let n = span_natural r c.requires.row c.args.week c.loop-node.since (all_since r c.args.week c.loop-node.node c.loop-node.since root c.loop-node.invariant.since) in
    (omega (arith, ints, n), omega (arith, ints, n))

pub quantity-requires : goal.quantity-requires
quantity-requires g c =
    let r : AtpRow = g.N.Nodes.of_row c.args.nodes.now in
    let root : c.loop-node.node ≡ 1 = omega (arith, c.loop-node.invariant.first, c.loop-node-test.false) in
    let n = span_natural r c.requires.row c.args.week c.loop-node.since (all_since r c.args.week c.loop-node.node c.loop-node.since root c.loop-node.invariant.since) in
    omega (arith, ints, n)

pub returns-clause-value : goal.returns-clause-value
returns-clause-value g c =
    let r : AtpRow = g.N.Nodes.of_row c.args.nodes.now in
    let root : c.loop-node.node ≡ 1 = omega (arith, c.loop-node.invariant.first, c.loop-node-test.false) in
    let all : IsSpan r 0 c.args.week 128 c.loop-node.since = all_since r c.args.week c.loop-node.node c.loop-node.since root c.loop-node.invariant.since in
    span_available r c.requires.row c.args.week c.quantity.result c.loop-node.since c.requires.week all (omega (arith, ints, c.quantity.ensures, span_natural r c.requires.row c.args.week c.loop-node.since all))

pub returns-clause-count : goal.returns-clause-count
returns-clause-count g c = omega (arith, c.loop-node.invariant.count, height_most c.loop-node.node)

pub returns-clause-few : goal.returns-clause-few
returns-clause-few g c = at_most g.N.Nodes.is_read (1 + height c.loop-node.node) 16 _ _ c.loop-node.invariant.few (omega (arith, height_most c.loop-node.node))
