use Rattle.mrp_open.proofs.FirstLine.{line-all, line-to}
use Rattle.mrp_open.proofs.whole_lines.line_len.Goals as goal

pub returns-in-Some-clause-end : goal.returns-in-Some-clause-end
returns-in-Some-clause-end c = line-to c.args.bytes.now c.in-Some.at c.in-Some.ensures.0.high c.in-Some.ensures.0.before c.in-Some.ensures.1

pub returns-in-None-clause-end : goal.returns-in-None-clause-end
returns-in-None-clause-end c = line-all c.args.bytes.now c.in-None.ensures
