use Rattle.std.proofs.Common.{◌<◌, ◌∙◌, ℕ, List, length, sym, subst, arith}
use Rattle.std.specs.Prelude.{All}
use Rattle.mrp_bill.specs.Grouped.{values_of}
use Rattle.mrp_bill.proofs.BillRows.{children-more, lines-below}
use Rattle.mrp_bill.proofs.lists.all.numbered_children.Goals as goal

pub number_by_parents-requires-clause-places : goal.number_by_parents-requires-clause-places
number_by_parents-requires-clause-places c =
    let lines = c.args.lines.now in
    let at = c.group.ensures ∙ c.requires.places c.loop-item.item (omega (arith, c.loop-item-test.true, c.count-count.ensures)) in
    subst (λ (places : List ℕ). All (λ place. place < length lines) places) (sym at) (lines-below lines c.loop-item.item)

pub loop-item-preserved : goal.loop-item-preserved
loop-item-preserved c =
    let lines = c.args.lines.now in
    let item = c.loop-item.item in
    let at = c.group.ensures ∙ c.requires.places item (omega (arith, c.loop-item-test.true, c.count-count.ensures)) in
    let numbered = c.in_ok-number_by_parents.ensures in
    record {
      size = numbered.size ∙ c.loop-item.invariant.size;
      unmarked = numbered.marked;
      within = λ k d h. omega (arith, numbered.within k d h, c.loop-item.invariant.size);
      rows = λ p. children-more lines item p c.group.result.now (values_of c.loop-item.rows.items p) (values_of c.number_by_parents.new.rows.items p) at (c.loop-item.invariant.rows p) (numbered.rows p);
    }
