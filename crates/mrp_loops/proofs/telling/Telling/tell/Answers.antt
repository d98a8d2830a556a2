use Rattle.std.proofs.Common.{List, refl, subst}
use Rattle.mrp_loops.specs.declared.line.Line.{Line}
use Rattle.mrp_loops.specs.Search.{IsSearched}
use Rattle.mrp_loops.proofs.Tellings.{tells-loop}
use Rattle.mrp_loops.proofs.telling.Telling.tell.Goals as goal

pub returns : goal.returns
returns c = λ lines turned never.
    let searched = subst (λ (l : List Line). IsSearched l c.args.ranks.now c.args.item c.run.new.self) turned c.in_ok-run.ensures in
    tells-loop lines c.args.ranks.now c.args.item c.args.way c.args.self.now _ c.run.new.self never searched c.requires.told c.mark_both.ensures refl c.clear.ensures c.in_ok-push.ensures.items
