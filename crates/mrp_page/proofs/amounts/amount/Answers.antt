use Rattle.std.proofs.Common.{◌∙◌, arith}
use Rattle.mrp_page.proofs.ShareOf.{digits-are}
use Rattle.mrp_page.proofs.amounts.amount.Goals as goal

pub returns-clause-value : goal.returns-clause-value
returns-clause-value c = c.read_digits.ensures.value ∙ digits-are c.args.text.now 0 (omega arith)
