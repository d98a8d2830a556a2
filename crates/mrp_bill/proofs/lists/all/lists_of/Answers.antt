use Rattle.std.proofs.Common.{◌≡◌, ◌<◌, ◌∙◌, ℕ, List, length, filter, ap, sym, subst, arith}
use Rattle.std.specs.List.{range_with_len}
use Rattle.std.specs.Prelude.{All}
use Rattle.mrp_bill.specs.declared.groups.Numbered.{Numbered}
use Rattle.mrp_bill.specs.Bill.{children_of, is_parent}
use Rattle.mrp_bill.specs.Grouped.{listed, values_of}
use Rattle.mrp_bill.proofs.BillRows.{lines-grouped, lines-numbered, parents-grouped, parents-numbered}
use Rattle.mrp_bill.proofs.lists.all.lists_of.Goals as goal

pub of-requires : goal.of-requires
of-requires c =
    let is = c.deref.ensures.value ∙ c.in_ok-numbered_lines.ensures in
    subst (λ (rows : List (Numbered ℕ)). All (λ r. r.number < c.args.count) rows) (sym is) (lines-numbered c.args.bill.now c.args.count c.requires)

pub numbered_children-requires-clause-places : goal.numbered_children-requires-clause-places
numbered_children-requires-clause-places c = λ i h.
    let is = c.deref.ensures.value ∙ c.in_ok-numbered_lines.ensures in
    c.in_ok-lines.ensures.groups i (omega (arith, h, c.in_ok-lines.ensures.size))
    ∙ ap (λ (rows : List (Numbered ℕ)). values_of rows i) is
    ∙ lines-grouped c.args.bill.now i

pub of-requires-3 : goal.of-requires-3
of-requires-3 c =
    let bill = c.args.bill.now in
    let count = c.args.count in
    let children = c.in_ok-children.children in
    let is = c.deref-3.ensures.value ∙ c.in_ok-numbered_parents.ensures in
    let are : (p : ℕ) → p < count → listed children p ≡ children_of bill count p = λ p h.
    c.in_ok-children.ensures.groups p h
    ∙ ap (λ (rows : List (Numbered ℕ)). values_of rows p) c.deref-2.ensures.value
    ∙ c.in_ok-numbered_children.ensures.rows p
    ∙ ap (λ (n : ℕ). children_of bill n p) c.in_ok-lines.ensures.size in
    subst (λ (rows : List (Numbered ℕ)). All (λ r. r.number < count) rows) (sym is)
    (parents-numbered bill count (listed children) are (length children) (omega (arith, c.in_ok-children.ensures.size)))

pub returns : goal.returns
returns c =
    let bill = c.args.bill.now in
    let count = c.args.count in
    let children = c.in_ok-children.children in
    let lines_are = c.deref.ensures.value ∙ c.in_ok-numbered_lines.ensures in
    let parents_are = c.deref-3.ensures.value ∙ c.in_ok-numbered_parents.ensures in
    let are : (p : ℕ) → p < count → listed children p ≡ children_of bill count p = λ p h.
    c.in_ok-children.ensures.groups p h
    ∙ ap (λ (rows : List (Numbered ℕ)). values_of rows p) c.deref-2.ensures.value
    ∙ c.in_ok-numbered_children.ensures.rows p
    ∙ ap (λ (n : ℕ). children_of bill n p) c.in_ok-lines.ensures.size in
    record {
      lines_size = c.in_ok-lines.ensures.size;
      parents_size = c.in_ok-parents.ensures.size;
      children_size = c.in_ok-children.ensures.size;
      lines = λ i h. c.in_ok-lines.ensures.groups i h ∙ ap (λ (rows : List (Numbered ℕ)). values_of rows i) lines_are ∙ lines-grouped bill i;
      parents = λ i h.
          c.in_ok-parents.ensures.groups i h
          ∙ ap (λ (rows : List (Numbered ℕ)). values_of rows i) parents_are
          ∙ parents-grouped bill count (listed children) are (length children) (omega (arith, c.in_ok-children.ensures.size)) i h
          ∙ ap (λ (n : ℕ). filter (λ p. is_parent bill p i) (range_with_len 0 n)) c.in_ok-children.ensures.size;
      children = are;
    }
