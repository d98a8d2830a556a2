use Rattle.std.proofs.Common.{arith}
use Rattle.mrp_bill.proofs.Climbs.{climb-visit}
use Rattle.mrp_bill.proofs.Ordered.{order-size, order-once}
use Rattle.mrp_bill.proofs.climb.steps.order_of.Goals as goal

pub finish-requires-clause-climb : goal.finish-requires-clause-climb
finish-requires-clause-climb c =
    climb-visit c.args.parents.now c.loop-item.climb c.visit.new.self c.loop-item.item c.loop-item.invariant.climb c.in_ok-visit.ensures (omega (arith, c.loop-item.invariant.climb.size))
    (c.is_new.ensures.0 c.if-is_new.true) (λ some. absurd (omega (arith, c.loop-item.invariant.empty)))

pub returns-clause-size : goal.returns-clause-size
returns-clause-size c = order-size c.args.parents.now c.loop-item.climb c.loop-item.invariant.climb c.loop-item.invariant.empty (λ i h. c.loop-item.invariant.met i (omega arith))

pub returns-clause-all : goal.returns-clause-all
returns-clause-all c = order-once c.args.parents.now c.loop-item.climb c.loop-item.invariant.climb c.loop-item.invariant.empty (λ i h. c.loop-item.invariant.met i (omega arith))
