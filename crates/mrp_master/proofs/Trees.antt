-- Each node of a tree is the net change of the weeks below it.
use Rattle.std.proofs.Common.{ℕ, zero, suc, ◌≡◌, ◌≢◌, ◌≤◌, ◌<◌, ◌+◌, ◌-◌, ◌*◌, inl, inr, cond, List, length, pos, set, arith, refl, ap, sym, subst, ◌∙◌}
use Rattle.std.proofs.lemmas.Bool.{cases_lt, le-ltb, lt-ltb}
use Rattle.std.proofs.lemmas.List.{get_or-set_other, get_or-set_same}
use Rattle.mrp_master.specs.declared.nodes.Node.{Node}
use Rattle.mrp_master.specs.AtpRow.{AtpRow}
use Rattle.mrp_master.specs.Nodes.{IsNode, IsSpan, before, joined, last, shifted}
use Rattle.mrp_master.specs.Tree.{IsMade, IsTree, made, node_at, place_node}
use Rattle.mrp_master.proofs.Places.{halves, place_before, place_last}
use Rattle.mrp_master.proofs.Spans.{joined_span, place_span, shifted_span}

-- weeks by other names
pub span_at : (r : AtpRow) (a b c a' b' c' : ℕ) (node : Node) → a ≡ a' → b ≡ b' → c ≡ c' → IsSpan r a b c node → IsSpan r a' b' c' node
span_at r a b c a' b' c' node e f g x =
    subst (λ (n : ℕ). IsSpan r n b' c' node) e (subst (λ (n : ℕ). IsSpan r a n c' node) f (subst (λ (n : ℕ). IsSpan r a b n node) g x))

pub made_inner : (r : AtpRow) (nodes : List Node) (n : ℕ) → n < 128 → made r nodes n ≡ joined (node_at nodes (2 * n)) (node_at nodes (2 * n + 1))
made_inner r nodes n h = ap (λ b. cond b (joined (node_at nodes (2 * n)) (node_at nodes (2 * n + 1))) (place_node r (n - 127))) (lt-ltb n 128 h)

pub made_place : (r : AtpRow) (nodes : List Node) (n : ℕ) → 128 ≤ n → made r nodes n ≡ place_node r (n - 127)
made_place r nodes n h = ap (λ b. cond b (joined (node_at nodes (2 * n)) (node_at nodes (2 * n + 1))) (place_node r (n - 127))) (le-ltb n 128 h)

module _ (r : AtpRow) (nodes : List Node) where
  -- a place, and a node over two
  place_is : (n : ℕ) → 128 ≤ n → IsNode r n (place_node r (n - 127))
  place_is n h =
      let next : n - 128 + 1 ≡ n - 127 = omega arith in
      span_at r (n - 128) (n - 128 + 1) (n - 128 + 1) (before n) (before n + 1) (last n) (place_node r (n - 127)) (sym (place_before n h)) (ap (λ k. k + 1) (sym (place_before n h)))
      (next ∙ sym (place_last n h)) (subst (λ (k : ℕ). IsSpan r (n - 128) (n - 128 + 1) (n - 128 + 1) (place_node r k)) next (place_span r (n - 128)))

  pub over : (n : ℕ) (a b : Node) → 1 ≤ n → n < 128 → IsNode r (2 * n) a → IsNode r (2 * n + 1) b → IsNode r n (joined a b)
  over n a b some inner x y =
      let h = halves n some inner in
      joined_span r (before n) (before n + 1) (last (2 * n)) (last n) a b
      (span_at r (before (2 * n)) (before (2 * n) + 1) (last (2 * n)) (before n) (before n + 1) (last (2 * n)) a h.first (ap (λ k. k + 1) h.first) refl x)
      (span_at r (before (2 * n + 1)) (before (2 * n + 1) + 1) (last (2 * n + 1)) (last (2 * n)) (last (2 * n) + 1) (last n) b h.middle (ap (λ k. k + 1) h.middle) h.end y)

  -- from a number on, if each is made of those below it
  module _ (m : ℕ) (all : (n : ℕ) → m ≤ n → 1 ≤ n → n < 256 → IsMade r nodes n) where
    by_rest : (rest n : ℕ) → m ≤ n → 1 ≤ n → n < 256 → 256 ≤ n + rest → IsNode r n (node_at nodes n)
    by_rest zero n a b c d = absurd (omega arith)
    by_rest (suc rest) n a b c d = elim (cases_lt n 128) [
      | inl inner ↦
          subst (IsNode r n) (sym ((all n a b c).is ∙ made_inner r nodes n inner))
          (over n (node_at nodes (2 * n)) (node_at nodes (2 * n + 1)) b inner (by_rest rest (2 * n) (omega arith) (omega arith) (omega arith) (omega arith))
          (by_rest rest (2 * n + 1) (omega arith) (omega arith) (omega arith) (omega arith)))
      | inr place ↦ subst (IsNode r n) (sym ((all n a b c).is ∙ made_place r nodes n place)) (place_is n place)
    ]

    pub nodes_from : (n : ℕ) → m ≤ n → 1 ≤ n → n < 256 → IsNode r n (node_at nodes n)
    nodes_from n a b c = by_rest 256 n a b c (omega arith)

  pub tree_node : (n : ℕ) → IsTree r nodes → 1 ≤ n → n < 256 → IsNode r n (node_at nodes n)
  tree_node n tree some within = nodes_from 1 (λ i a b d. tree.made i b d) n some some within

  -- One node changes.

  module _ (k : ℕ) (node : Node) (some : 1 ≤ k) (within : k < length nodes) where
    made_same : (n : ℕ) → (n < 128 → (2 * n ≢ k) × (2 * n + 1 ≢ k)) → made r (set nodes k node) n ≡ made r nodes n
    made_same n apart = elim (cases_lt n 128) [
      | inl inner ↦
          let left : node_at (set nodes k node) (2 * n) ≡ node_at nodes (2 * n) = get_or-set_other nodes k (2 * n) node (record { sum = pos 0; least = pos 0 }) (apart inner).0 in
          let right : node_at (set nodes k node) (2 * n + 1) ≡ node_at nodes (2 * n + 1) = get_or-set_other nodes k (2 * n + 1) node (record { sum = pos 0; least = pos 0 }) (apart inner).1 in
          made_inner r (set nodes k node) n inner ∙ ap (λ (x : Node). joined x (node_at (set nodes k node) (2 * n + 1))) left ∙ ap (joined (node_at nodes (2 * n))) right
          ∙ sym (made_inner r nodes n inner)
      | inr place ↦ made_place r (set nodes k node) n place ∙ sym (made_place r nodes n place)
    ]

    -- another node stays made if the changed one is not its child
    pub made_other : (n : ℕ) → n ≢ k → (n < 128 → (2 * n ≢ k) × (2 * n + 1 ≢ k)) → IsMade r nodes n → IsMade r (set nodes k node) n
    made_other n other apart x = record { is = get_or-set_other nodes k n node (record { sum = pos 0; least = pos 0 }) other ∙ x.is ∙ sym (made_same n apart) }

    -- and it is recomputed
    pub made_new : node ≡ made r nodes k → IsMade r (set nodes k node) k
    made_new e = record { is = get_or-set_same nodes k node (record { sum = pos 0; least = pos 0 }) within ∙ e ∙ sym (made_same k (λ inner. (omega arith, omega arith))) }

-- From a node to the one over it, with the least from a week on.

module _ (r : AtpRow) (week over n beside : ℕ) (a b : Node) (some : 1 ≤ over) (inner : over < 128) (x : IsSpan r (before n) week (last n) a) (y : IsNode r beside b) where
  pub from_left : n ≡ 2 * over → beside ≡ 2 * over + 1 → IsSpan r (before over) week (last over) (joined a b)
  from_left e f =
      let h = halves over some inner in
      let middle : last n ≡ last (2 * over) = ap last e in
      joined_span r (before over) week (last n) (last over) a b (span_at r (before n) week (last n) (before over) week (last n) a (ap before e ∙ h.first) refl refl x)
      (span_at r (before beside) (before beside + 1) (last beside) (last n) (last n + 1) (last over) b (ap before f ∙ h.middle ∙ sym middle) (ap (λ k. before k + 1) f ∙ ap (λ k. k + 1) (h.middle ∙ sym middle))
      (ap last f ∙ h.end) y)

  pub from_right : n ≡ 2 * over + 1 → beside ≡ 2 * over → IsSpan r (before over) week (last over) (shifted b a)
  from_right e f =
      let h = halves over some inner in
      let middle : before n ≡ last beside = ap before e ∙ h.middle ∙ sym (ap last f) in
      shifted_span r (before over) (before beside + 1) week (last beside) (last over) b a
      (span_at r (before beside) (before beside + 1) (last beside) (before over) (before beside + 1) (last beside) b (ap before f ∙ h.first) refl refl y)
      (span_at r (before n) week (last n) (last beside) week (last over) a middle refl (ap last e ∙ h.end) x)
