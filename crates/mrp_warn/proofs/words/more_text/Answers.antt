use Rattle.std.proofs.Common.{◌∙◌, ap, sym}
use Rattle.std.proofs.lemmas.Result.{IfOk-weaker}
use Rattle.mrp_warn.specs.Sheets.{file_of}
use Rattle.mrp_warn.specs.Words.{line_text}
use Rattle.mrp_warn.proofs.Worded.{more-line}
use Rattle.mrp_warn.proofs.words.more_text.Goals as goal

pub returns : goal.returns
returns c =
    let words = c.deref.ensures ∙ c.in_ok-words.ensures.ok in
    let file = c.file_of-file.ensures ∙ ap (file_of c.args.sheets.now) c.table.ensures in
    IfOk-weaker c.line_text.result _ _ (λ text is. is ∙ (λ i. line_text (file i) 0 (c.column.ensures i) (words i)) ∙ sym (more-line c.args.sheets.now c.args.kind c.args.rest c.if-rest-eq0.false)) c.line_text.ensures
