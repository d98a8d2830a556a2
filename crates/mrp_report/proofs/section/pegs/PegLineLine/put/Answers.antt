use Rattle.std.proofs.Common.{decimal}
use Rattle.mrp_report.specs.page.CellOf.{cell_of}
use Rattle.mrp_report.specs.page.WordText.{word_text}
use Rattle.mrp_report.proofs.lemmas.page.Lines.{line_end, line_first, line_next}
use Rattle.mrp_report.proofs.section.pegs.PegLineLine.put.Goals as goal

pub returns : goal.returns
returns c =
    let line = c.args.self.now in
    line_end
    (line_next (decimal line.quantity)
    (line_next (cell_of line.source)
    (line_next (word_text line.supply)
    (line_next (cell_of line.needed.line)
    (line_next (cell_of line.needed.parent)
    (line_next (cell_of line.needed.number)
    (line_next (word_text line.needed.need)
    (line_next (cell_of line.needed.week)
    (line_first c.args.self.now.name.now c.put_first-end.ensures.put)
    c.put-end.ensures.put)
    c.put_word-end.ensures.put)
    c.put-end-2.ensures.put)
    c.put-end-3.ensures.put)
    c.put-end-4.ensures.put)
    c.put_word-end-2.ensures.put)
    c.put-end-5.ensures.put)
    c.put_number-end.ensures.put)
    c.put_byte.ensures
