use Rattle.std.proofs.Common.{decimal}
use Rattle.mrp_qty.specs.Minutes.{minutes_text_of}
use Rattle.mrp_report.proofs.lemmas.page.Lines.{line_end, line_first, line_next}
use Rattle.mrp_report.proofs.section.loads.LoadLineLine.put.Goals as goal

pub returns : goal.returns
returns c =
    let r = c.args.self.now.row.now in
    let week = rw c.from.ensures at c.put_number-end.ensures.put in
    let load = rw c.format.ensures.text at c.put_text-end.ensures.put in
    let capacity = rw c.format-2.ensures.text at c.put_text-end-2.ensures.put in
    let over = rw c.format-3.ensures.text at c.put_text-end-3.ensures.put in
    line_end
    (line_next (minutes_text_of r.over)
    (line_next (minutes_text_of r.capacity)
    (line_next (minutes_text_of r.load)
    (line_next (decimal r.week)
    (line_first c.args.self.now.name.now c.put_first-end.ensures.put)
    week)
    load)
    capacity)
    over)
    c.put_byte.ensures
