use Rattle.std.proofs.Common.{◌≡◌, ◌<◌, ◌≤◌, length, get_or, refl, arith}
use Rattle.std.proofs.lemmas.List.{get_or_read}
use Rattle.mrp_bill.specs.Bill.{line_at}
use Rattle.mrp_bill.proofs.BillRows.{numbered-already, numbered-more}
use Rattle.mrp_bill.proofs.lists.all.number_by_parents.Goals as goal
use Rattle.mrp_bill.proofs.lists.all.number_by_parents.Goals.{then-index-item+in_ok-push, else-index-item}

pub loop-place-preserved : goal.loop-place-preserved
loop-place-preserved c =
    let lines = c.args.lines.now in
    let places = c.args.places.now in
    let k = c.loop-place.place-index in
    let item = c.args.item in
    let count = length c.args.marks.now.items in
    let old = c.args.rows.now.items in
    let marks = c.loop-place.marks.items in
    let rows = c.loop-place.rows.items in
    let parent = (line_at lines (get_or places k 0)).parent in
    let inside : get_or places k 0 < length lines = c.requires.places k 0 c.loop-place-test.true in
    let low : parent < count = (c.requires.lines (get_or places k 0) (record { parent = 0; component = 0; per = 0 }) inside).0 in
    let here : parent < length marks = omega (arith, low, c.loop-place.invariant.size) in
    let mark : c.index.result.now ≡ get_or marks parent 0 = get_or_read marks parent c.index.result.now here c.index.ensures 0 in
    elim c.if-index-item.branch [
      | then-index-item+in_ok-push w ↦
          let unmarked : get_or marks parent 0 ≤ item = omega (arith, mark, w.if-index-item.true) in
          rw (w.rows-is, w.marks-is, w.in_ok-push.ensures.items)
          (numbered-more lines places k item count old marks rows c.loop-place.invariant parent c.loop-place-test.true refl low unmarked)
      | else-index-item w ↦
          let marked : item < get_or marks parent 0 = omega (arith, mark, w.if-index-item.false) in
          rw (w.rows-is, w.marks-is)
          (numbered-already lines places k item count old marks rows c.loop-place.invariant parent c.loop-place-test.true refl low marked)
    ]
