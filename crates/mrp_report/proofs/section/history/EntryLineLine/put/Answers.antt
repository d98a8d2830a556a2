use Rattle.std.proofs.Common.{decimal}
use Rattle.mrp_report.specs.page.CellOf.{cell_of}
use Rattle.mrp_report.specs.page.WordText.{word_text}
use Rattle.mrp_report.proofs.lemmas.page.Lines.{line_end, line_first, line_next}
use Rattle.mrp_report.proofs.section.history.EntryLineLine.put.Goals as goal

pub returns : goal.returns
returns c =
    let line = c.args.self.now in
    line_end
    (line_next (cell_of line.replied.value)
    (line_next (word_text line.replied.word)
    (line_next (cell_of line.called.number)
    (line_next (cell_of line.called.quantity)
    (line_next (cell_of line.called.week)
    (line_next (cell_of line.called.item)
    (line_next (word_text line.called.word)
    (line_next (decimal line.desk)
    (line_first (decimal line.number) c.put_first_number-end.ensures.put)
    c.put_number-end.ensures.put)
    c.put_word-end.ensures.put)
    c.put-end.ensures.put)
    c.put-end-2.ensures.put)
    c.put-end-3.ensures.put)
    c.put-end-4.ensures.put)
    c.put_word-end-2.ensures.put)
    c.put-end-5.ensures.put)
    c.put_byte.ensures
