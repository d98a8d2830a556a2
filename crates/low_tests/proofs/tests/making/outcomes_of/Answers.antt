use Rattle.mrp_item.proofs.OutcomeLists.{places-next}
use Rattle.low_tests.proofs.tests.making.outcomes_of.Goals as goal

pub loop-item-preserved : goal.loop-item-preserved
loop-item-preserved c =
    places-next c.args.inputs.now.value c.loop-item.all.items c.push.new.self.items c.in_ok-outcome.outcome c.loop-item.item c.loop-item.invariant c.in_ok-push.ensures.items c.in_ok-outcome.ensures
