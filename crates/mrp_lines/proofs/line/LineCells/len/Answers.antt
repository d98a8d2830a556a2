use Rattle.std.proofs.Common.{◌∙◌, ◌+◌, ap, count_by, sym}
use Rattle.std.proofs.lemmas.List.Splits.{length-slice_split}
use Rattle.mrp_lines.specs.Lines.{is_comma}
use Rattle.mrp_lines.proofs.line.LineCells.len.Goals as goal

pub returns : goal.returns
returns c = ap (λ n. n + 1) (c.count_commas.ensures ∙ ap (count_by is_comma) c.self.view_is) ∙ sym (length-slice_split is_comma c.args.self.now)
