use Rattle.std.proofs.Common.{◌∙◌, refl, sym, subst, arith, ap}
use Rattle.mrp_item.specs.Inputs.{count}
use Rattle.mrp_item.specs.Made.{item_from}
use Rattle.mrp_item.specs.Places.{ItemOf}
use Rattle.mrp_explode.specs.Finished.{IsFinished}
use Rattle.mrp_explode.proofs.Placing.{none-placed, next-placed, one-placed, all-placed}
use Rattle.mrp_explode.proofs.levels.plan_level.Goals as goal

pub loop-outcome-init : goal.loop-outcome-init
loop-outcome-init g c = record {
  inputs = refl;
  placed = none-placed (item_from c.args.finished.now.inputs) c.args.items.now c.into_iter-outcome-iterator.result.rest.items c.in_ok-outcome-items.outcome-items.items
      (IsFinished c.args.finished.now) c.into_iter-outcome-iterator.ensures.into_iter_gives.0 c.in_ok-outcome-items.ensures;
  others = λ i there. there;
}

pub put-requires-clause-inputs : goal.put-requires-clause-inputs
put-requires-clause-inputs g c =
    let (i, (place, low, at), same) =
    next-placed (item_from c.args.finished.now.inputs) c.args.items.now _ _ c.in-Some.outcome _ c.loop-outcome.invariant.placed c.in-Some.ensures.steps.0 in
    ap (λ (o : ItemOf). o.inputs) same ∙ sym c.loop-outcome.invariant.inputs

pub put-requires-clause-item : goal.put-requires-clause-item
put-requires-clause-item g c =
    let (i, (place, low, at), same) =
    next-placed (item_from c.args.finished.now.inputs) c.args.items.now _ _ c.in-Some.outcome _ c.loop-outcome.invariant.placed c.in-Some.ensures.steps.0 in
    let item = ap (λ (o : ItemOf). o.item) same in
    omega (arith, c.requires.items place i low, at, item, ap count c.loop-outcome.invariant.inputs)

pub loop-outcome-preserved : goal.loop-outcome-preserved
loop-outcome-preserved g c = record {
  inputs = c.put.ensures.finishes.inputs ∙ c.loop-outcome.invariant.inputs;
  placed = one-placed (item_from c.args.finished.now.inputs) c.args.items.now _ (IsFinished c.loop-outcome.finished) (IsFinished c.put.new.self) c.in-Some.outcome _
      c.loop-outcome.invariant.placed c.in-Some.ensures.steps.0
      (λ i same. subst (IsFinished c.put.new.self) (ap (λ (o : ItemOf). o.item) same) c.put.ensures.finishes.here) c.put.ensures.finishes.others;
  others = λ i there. c.put.ensures.finishes.others i (c.loop-outcome.invariant.others i there);
}

pub returns : goal.returns
returns g c = record {
  inputs = c.loop-outcome.invariant.inputs;
  here = all-placed (item_from c.args.finished.now.inputs) c.args.items.now _ (IsFinished c.loop-outcome.finished) c.loop-outcome.invariant.placed
      (omega (arith, c.in-None.ensures.steps.0, c.loop-outcome.outcome-iterator.rest.ok.0));
  others = c.loop-outcome.invariant.others;
}
