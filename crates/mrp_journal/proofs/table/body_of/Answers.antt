use Rattle.std.proofs.Common.{◌∙◌, ap, sym}
use Rattle.mrp_rows.specs.Bundle.{section_text, without_mark}
use Rattle.mrp_journal.proofs.Bodies.{same-mark}
use Rattle.mrp_journal.proofs.table.body_of.Goals as goal

pub returns : goal.returns
returns c = c.after_mark-2.ensures ∙ ap without_mark (c.after_mark.ensures ∙ ap without_mark c.after_line_ends.ensures) ∙ sym (same-mark (section_text c.args.journal.now))
