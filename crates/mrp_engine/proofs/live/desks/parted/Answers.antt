use Rattle.std.proofs.Common.{◌∙◌, refl, sym}
use Rattle.std.proofs.lemmas.Bool.{false≢true}
use Rattle.mrp_engine.proofs.lemmas.live.Parting.{one-parted, well-not-refused}
use Rattle.mrp_engine.proofs.live.desks.parted.Goals as goal

pub loop-served-preserved-then-is_ok : goal.loop-served-preserved-then-is_ok
loop-served-preserved-then-is_ok c =
    one-parted c.args.all.items c.loop-served.served-iterator.rest.items c.next.new.self.rest.items c.loop-served.desks.items c.push.new.self.items c.loop-served.lists.items c.push-in-loop-served.new.self.items
    c.loop-served.end c.in-Some.served.end c.in-Some.served c.loop-served.invariant c.in-Some.ensures.steps.0 c.in_ok-push.ensures.items c.in_ok-push-2.ensures.items (λ ok. refl)
    (λ e is. well-not-refused c.loop-served.end (sym c.is_ok.ensures.value ∙ c.if-is_ok.true) e is)

pub loop-served-preserved : goal.loop-served-preserved
loop-served-preserved c =
    one-parted c.args.all.items c.loop-served.served-iterator.rest.items c.next.new.self.rest.items c.loop-served.desks.items c.push.new.self.items c.loop-served.lists.items c.push-in-loop-served.new.self.items
    c.loop-served.end c.loop-served.end c.in-Some.served c.loop-served.invariant c.in-Some.ensures.steps.0 c.in_ok-push.ensures.items c.in_ok-push-2.ensures.items (λ ok. absurd (false≢true (sym (sym c.is_ok.ensures.value ∙ c.if-is_ok.false) ∙ ok))) (λ e is. refl)
