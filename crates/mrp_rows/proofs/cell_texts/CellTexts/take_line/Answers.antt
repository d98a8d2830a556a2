use Rattle.std.proofs.Common.{◌∙◌}
use Rattle.mrp_rows.proofs.CopiedLines.{copied-held, copied-taken}
use Rattle.mrp_rows.proofs.cell_texts.CellTexts.take_line.Goals as goal

pub returns : goal.returns
returns c =
    let size = c.len-self-inside.ensures ∙ c.copy_line-taken.new.bytes.ok.0 in
    rw size (copied-taken c.args.text.now c.args.most _ _ _ c.copy_line-taken.ensures)

pub invariant_of-self : goal.invariant_of-self
invariant_of-self c =
    let size = c.len-self-inside.ensures ∙ c.copy_line-taken.new.bytes.ok.0 in
    rw size (copied-held c.args.text.now c.args.most _ _ _ c.copy_line-taken.ensures)
