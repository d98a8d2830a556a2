use Rattle.mrp_lines.specs.Left.{ahead_of}
use Rattle.mrp_lines.proofs.Windows.{takes-front}
use Rattle.mrp_lines.proofs.lines.Lines.advance.Goals as goal

pub returns-clause-left : goal.returns-clause-left
returns-clause-left g c = rw c.advance.ensures (takes-front (g.R.Read.remaining c.args.self.now.input) (ahead_of c.args.self.now) c.args.count)
