use Rattle.std.proofs.Common.{arith}
use Rattle.std.proofs.lemmas.Grind.{common_steps}
use Rattle.mrp_journal.proofs.WholeLines.{at-last, no-last}
use Rattle.mrp_journal.proofs.lines.whole_lines.Goals as goal

pub returns-in-Some : goal.returns-in-Some
returns-in-Some c = let e = at-last c.args.text.now c.in-Some.at c.in-Some.ensures.0 c.in-Some.ensures.1 in grind (arith, common_steps, e)

pub returns-in-None : goal.returns-in-None
returns-in-None c = let e = no-last c.args.text.now c.in-None.ensures in grind (arith, common_steps, e)
