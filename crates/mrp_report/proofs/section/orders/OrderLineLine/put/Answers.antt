use Rattle.std.proofs.Common.{decimal}
use Rattle.mrp_report.specs.section.OrderText.{kind_word}
use Rattle.mrp_report.proofs.lemmas.page.Lines.{line_end, line_first, line_next}
use Rattle.mrp_report.proofs.section.orders.OrderLineLine.put.Goals as goal

pub returns : goal.returns
returns c =
    let line = c.args.self.now in
    let order = line.order.now in
    let kind = rw c.kind_word.ensures at c.put_word-end.ensures.put in
    let due = rw c.from.ensures at c.put_number-end-2.ensures.put in
    let quantity = rw c.value.ensures.pieces at c.put_number-end-3.ensures.put in
    let start = rw c.value-2.ensures.pieces at c.put_number-end-4.ensures.put in
    let release = rw c.from-2.ensures at c.put_number-end-5.ensures.put in
    let late = rw c.from-3.ensures at c.put_number-end-6.ensures.put in
    line_end
    (line_next (decimal order.late)
    (line_next (decimal order.release)
    (line_next (decimal order.start)
    (line_next (decimal order.quantity)
    (line_next (decimal order.due)
    (line_next (kind_word order.kind)
    (line_next (decimal line.number)
    (line_first c.args.self.now.name.now c.put_first-end.ensures.put)
    c.put_number-end.ensures.put)
    kind)
    due)
    quantity)
    start)
    release)
    late)
    c.put_byte.ensures
