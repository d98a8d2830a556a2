use Rattle.std.proofs.Common.{◌∙◌, ◌++◌, codes, decimal}
use Rattle.std.proofs.lemmas.Result.{IfOk-weaker}
use Rattle.mrp_inspect.proofs.faults.count_text.Goals as goal

pub returns : goal.returns
returns c =
    IfOk-weaker c.format.result _ _ (λ text is. is ∙ (λ i. decimal c.args.count ++ (codes " fault" ++ (c.plural-ending.ensures i ++ codes " (warnings are told when there is none)\n")))) c.format.ensures.ok
