use Rattle.std.proofs.Common.{List, subst}
use Rattle.mrp_loops.specs.declared.line.Line.{Line}
use Rattle.mrp_loops.specs.Best.{HasNoLine}
use Rattle.mrp_loops.proofs.Shortest.{none-back}
use Rattle.mrp_loops.proofs.way.way_back.Goals as goal

pub returns-in-None : goal.returns-in-None
returns-in-None c =
    let none = subst (λ (l : List Line). HasNoLine l c.args.far.now c.args.item) c.requires.turned c.in-None.ensures in
    none-back c.args.lines.now c.args.far.now c.args.item c.requires.far none
