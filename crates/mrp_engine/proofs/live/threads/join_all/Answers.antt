use Rattle.std.proofs.Common.{Err, Ok, arith, refl, subst, sym}
use Rattle.mrp_engine.specs.live.Begun.{EndsAs}
use Rattle.mrp_engine.proofs.lemmas.live.OneByOne.{all-done, one-done, room-left}
use Rattle.mrp_engine.proofs.live.threads.join_all.Goals as goal
use Rattle.mrp_engine.proofs.live.threads.join_all.Goals.{in-Ok, in-Err}

pub loop-work-preserved : goal.loop-work-preserved
loop-work-preserved g c =
    let begun = c.in-Some.work in
    let end = c.match-work.end in
    let is = c.in-Some.ensures.steps.0 in
    let fits : EndsAs begun end = elim c.match-work.branch [
      | in-Ok w ↦ subst (EndsAs begun) (sym w.end-is) (subst (λ b. EndsAs b (Ok w.join.result)) (sym w.in-Ok.is) w.join.ensures)
      | in-Err w ↦ subst (EndsAs begun) (sym w.end-is) (subst (λ b. EndsAs b (Err w.in-Err.left)) (sym w.in-Err.is) refl)
    ] in
    let more = c.push_reserved.ensures.items in (
      one-done EndsAs c.args.begun.items c.loop-work.work-iterator.rest.items c.next.new.self.rest.items c.loop-work.ended.items c.push_reserved.new.self.items begun end
          c.loop-work.invariant.0 is more fits,
      room-left c.loop-work.work-iterator.rest.items c.next.new.self.rest.items c.loop-work.ended.items c.push_reserved.new.self.items begun end _ _ is more c.push_reserved.ensures.capacity c.loop-work.invariant.1,
    )

pub returns-clause-count : goal.returns-clause-count
returns-clause-count g c =
    let rest = c.loop-work.work-iterator.rest in
    let none = c.in-None.ensures.steps.0 in
    (all-done EndsAs c.args.begun.items rest.items c.loop-work.ended.items c.loop-work.invariant.0 (omega (arith, none, rest.ok.0))).0

pub returns-clause-each : goal.returns-clause-each
returns-clause-each g c =
    let rest = c.loop-work.work-iterator.rest in
    let none = c.in-None.ensures.steps.0 in
    (all-done EndsAs c.args.begun.items rest.items c.loop-work.ended.items c.loop-work.invariant.0 (omega (arith, none, rest.ok.0))).1
