use Rattle.mrp_inspect.specs.Lines.{at_front}
use Rattle.mrp_inspect.proofs.Counting.{counted-on, line-is}
use Rattle.mrp_inspect.proofs.laws.lines_are_behind_line_ends.Goals as goal

pub returns-clause-ends : goal.returns-clause-ends
returns-clause-ends c bytes = line-is at_front bytes

pub returns-clause-pieces : goal.returns-clause-pieces
returns-clause-pieces c first second = counted-on at_front first second
