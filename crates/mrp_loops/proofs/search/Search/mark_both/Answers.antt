use Rattle.std.proofs.Common.{◌≡◌, ◌<◌, ◌∙◌, List, length, sym, ap, arith}
use Rattle.mrp_loops.specs.declared.search.Met.{Met}
use Rattle.mrp_loops.specs.Search.{met_at}
use Rattle.mrp_loops.proofs.Markings.{marks-more, marks-same, met-read, unmet-read}
use Rattle.mrp_loops.proofs.search.Search.mark_both.Goals as goal
use Rattle.mrp_loops.proofs.search.Search.mark_both.Goals.{then-is_some, else-is_some}

pub loop-met-preserved : goal.loop-met-preserved
loop-met-preserved c =
    let k = c.loop-met.met-index in
    let one = c.args.self.now in
    let other = c.args.other.now in
    let item = (met_at c.deref-met-items.result.now k).item in
    let is : (met_at c.deref-met-items.result.now c.loop-met.met-index).item ≡ (met_at c.args.self.now.met.items c.loop-met.met-index).item = ap (λ (met : List Met). (met_at met k).item) c.deref-met-items.ensures.value in
    let below : c.loop-met.met-index < length c.args.self.now.met.items = omega (arith, c.loop-met-test.true, ap (length {A = Met}) c.deref-met-items.ensures.value) in
    let inside : (met_at c.deref-met-items.result.now c.loop-met.met-index).item < length c.loop-met.marks.items = omega (arith, is, c.requires.marks k below, c.loop-met.invariant.size) in
    let within : (met_at c.deref-met-items.result.now c.loop-met.met-index).item < length c.args.other.now.far.items = omega (arith, inside, c.loop-met.invariant.size, c.requires.size) in
    elim c.if-is_some.branch [
      | then-is_some w ↦
          rw w.marks-is
          (marks-more k item one other c.args.marks.now.items c.loop-met.marks.items c.loop-met.invariant below is
          (met-read other item c.index.result.now within c.index.ensures (sym c.is_some.ensures ∙ w.if-is_some.true)) inside)
      | else-is_some w ↦
          rw w.marks-is
          (marks-same k item one other c.args.marks.now.items c.loop-met.marks.items c.loop-met.invariant below is
          (unmet-read other item c.index.result.now within c.index.ensures (sym c.is_some.ensures ∙ w.if-is_some.false)))
    ]
