use Rattle.std.proofs.Common.{◌∙◌, rules}
use Rattle.mrp_page.proofs.read.read_records.Goals as goal

pub returns-clause-noted : goal.returns-clause-noted
returns-clause-noted g c text known = rw c.new-notes.ensures at (c.in_ok-note_lines.ensures.noted text (c.in_ok-lines.ensures ∙ known))

pub returns-in_err-note_lines-clause-wrong : goal.returns-in_err-note_lines-clause-wrong
returns-in_err-note_lines-clause-wrong g c shape text known = rw c.new-notes.ensures at (c.in_err-note_lines.ensures.wrong (search rules) text (c.in_ok-lines.ensures ∙ known))
