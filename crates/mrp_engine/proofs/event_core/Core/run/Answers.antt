use Rattle.std.proofs.Common.{[], List, arith, subst, sym, take}
use Rattle.mrp_engine.specs.declared.event_core.event.Answer.{Answer}
use Rattle.mrp_engine.proofs.lemmas.event_core.CoreRuns.{HasAnswered, accepted-shop, all-answered, answered-none, event-fits, fits-core, step-more}
use Rattle.mrp_engine.proofs.event_core.Core.run.Goals as goal

pub loop-event-init : goal.loop-event-init
loop-event-init g c =
    subst (λ (l : List Answer). HasAnswered c.args.shop.tables [] l c.in_ok-core.core) (sym c.in_ok-answers.ensures.items) (answered-none c.args.shop.tables c.in_ok-core.core c.in_ok-core.ensures)

pub step-requires-after_bounds : goal.step-requires-after_bounds
step-requires-after_bounds g c κs within =
    let k = c.loop-event.event-index in
    let events = c.args.events.now in
    let e = c.event-item.result in
    fits-core c.args.shop.tables (take k events) c.loop-event.answers.items c.loop-event.core e c.loop-event.invariant
    (event-fits c.args.shop.tables events k e c.requires c.loop-event-test.true c.event-item.is)

pub loop-event-preserved : goal.loop-event-preserved
loop-event-preserved g c =
    step-more c.args.shop.tables c.args.events.now c.loop-event.event-index c.loop-event.answers.items c.push.new.self.items c.loop-event.core c.step.new.self c.event-item.result c.in_ok-step.field-0
    c.requires c.loop-event-test.true c.event-item.is c.loop-event.invariant c.in_ok-step.ensures.answer c.in_ok-step.ensures.after c.in_ok-push.ensures.items

pub returns : goal.returns
returns g c =
    let kept = accepted-shop c.args.shop c.tables.result.now c.tables.ensures.accepted c.tables.ensures.value c.keep_limits.ensures in
    all-answered c.args.shop c.args.events.now c.loop-event.event-index c.loop-event.answers.items c.loop-event.core kept (omega (arith, c.loop-event-test.false)) c.loop-event.invariant
