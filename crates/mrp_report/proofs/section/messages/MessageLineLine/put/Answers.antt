use Rattle.mrp_report.specs.page.CellOf.{cell_of}
use Rattle.mrp_report.specs.page.WordText.{word_text}
use Rattle.mrp_report.proofs.lemmas.page.Lines.{line_end, line_first, line_next}
use Rattle.mrp_report.proofs.section.messages.MessageLineLine.put.Goals as goal

pub returns : goal.returns
returns c =
    let line = c.args.self.now in
    line_end
    (line_next (cell_of line.value)
    (line_next (word_text line.advice)
    (line_next (cell_of line.source)
    (line_next (word_text line.supply)
    (line_first c.args.self.now.name.now c.put_first-end.ensures.put)
    c.put_word-end.ensures.put)
    c.put-end.ensures.put)
    c.put_word-end-2.ensures.put)
    c.put-end-2.ensures.put)
    c.put_byte.ensures
