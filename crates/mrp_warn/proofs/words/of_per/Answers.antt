use Rattle.std.proofs.Common.{◌∙◌}
use Rattle.std.proofs.lemmas.Result.{IfOk-weaker}
use Rattle.mrp_warn.specs.Words.{of_per}
use Rattle.mrp_warn.proofs.words.of_per.Goals as goal

pub returns : goal.returns
returns c = IfOk-weaker c.format.result _ _ (λ text is. is ∙ (λ i. of_per c.args.per (c.text_of_name-component.ensures i) (c.text_of_name-parent.ensures i))) c.format.ensures.ok
