use Rattle.std.proofs.Common.{Err, arith, subst, sym}
use Rattle.mrp_engine.specs.live.Begun.{GivesWhat}
use Rattle.mrp_engine.proofs.lemmas.live.OneByOne.{all-done, one-done, room-left}
use Rattle.mrp_engine.proofs.live.threads.do_left.Goals as goal
use Rattle.mrp_engine.proofs.live.threads.do_left.Goals.{in-Ok, in-Err}

pub loop-end-preserved : goal.loop-end-preserved
loop-end-preserved g c =
    let Gives = GivesWhat (goal.F-post g) in
    let end = c.in-Some.end in
    let served = c.match-end.push_reserved in
    let is = c.in-Some.ensures.steps.0 in
    let fits : Gives end served = elim c.match-end.branch [
      | in-Ok w ↦ subst (λ e. Gives e served) (sym w.in-Ok.is) w.push_reserved-is
      | in-Err w ↦ subst (λ e. Gives e served) (sym w.in-Err.is) (subst (Gives (Err w.in-Err.left)) (sym w.push_reserved-is) w.call_once.ensures)
    ] in
    let more = c.push_reserved.ensures.items in (
      one-done Gives c.args.ended.items c.loop-end.end-iterator.rest.items c.next.new.self.rest.items c.loop-end.all.items c.push_reserved.new.self.items end served
          c.loop-end.invariant.0 is more fits,
      room-left c.loop-end.end-iterator.rest.items c.next.new.self.rest.items c.loop-end.all.items c.push_reserved.new.self.items end served _ _ is more c.push_reserved.ensures.capacity c.loop-end.invariant.1,
    )

pub returns-clause-count : goal.returns-clause-count
returns-clause-count g c =
    let rest = c.loop-end.end-iterator.rest in
    let none = c.in-None.ensures.steps.0 in
    (all-done (GivesWhat (goal.F-post g)) c.args.ended.items rest.items c.loop-end.all.items c.loop-end.invariant.0 (omega (arith, none, rest.ok.0))).0

pub returns-clause-each : goal.returns-clause-each
returns-clause-each g c =
    let rest = c.loop-end.end-iterator.rest in
    let none = c.in-None.ensures.steps.0 in
    (all-done (GivesWhat (goal.F-post g)) c.args.ended.items rest.items c.loop-end.all.items c.loop-end.invariant.0 (omega (arith, none, rest.ok.0))).1
