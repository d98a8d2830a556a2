use Rattle.std.proofs.Common.{inr}
use Rattle.std.proofs.lemmas.Result.{on_ok_weaker}
use Rattle.mrp_loops.specs.Loops.{IsWayBack}
use Rattle.mrp_loops.proofs.telling.Telling.tell_if_any.Goals as goal

pub returns-in-Some : goal.returns-in-Some
returns-in-Some c =
    let back : IsWayBack c.args.lines.now c.args.item c.in-Some.way.items = rw c.in-Some.is at c.in_ok-way.ensures in
    on_ok_weaker c.tell.result (λ tells. inr (c.in-Some.way, back, tells c.args.lines.now c.requires.turned c.requires.ranks)) c.tell.ensures
