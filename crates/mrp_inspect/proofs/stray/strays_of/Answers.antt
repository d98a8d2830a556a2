use Rattle.mrp_inspect.proofs.Straying.{stray-end, stray-next}
use Rattle.mrp_inspect.proofs.stray.strays_of.Goals as goal

pub loop-place-preserved : goal.loop-place-preserved
loop-place-preserved c =
    stray-next c.args.pieces.now c.loop-place.place c.index-pieces-place.result c.told_of-told.result c.loop-place.strays.items _ _ c.loop-place-test.true c.index-pieces-place.is c.told_of-told.ensures c.in_ok-push_stray.ensures c.loop-place.invariant

pub returns : goal.returns
returns c = stray-end c.args.pieces.now c.loop-place.place c.loop-place.strays.items _ c.loop-place-test.false c.loop-place.invariant
