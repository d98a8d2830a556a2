use Rattle.std.proofs.Common.{◌∙◌}
use Rattle.std.proofs.lemmas.Result.{IfOk-weaker}
use Rattle.mrp_warn.specs.Words.{of_doubled}
use Rattle.mrp_warn.proofs.words.of_doubled.Goals as goal

pub returns : goal.returns
returns c = IfOk-weaker c.format.result _ _ (λ text is. is ∙ (λ i. of_doubled (c.text_of_name-component.ensures i) (c.text_of_name-parent.ensures i) (c.line_of-line.ensures i))) c.format.ensures.ok
