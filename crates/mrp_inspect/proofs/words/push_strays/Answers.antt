use Rattle.mrp_advice.proofs.Listings.{last-of, next-of}
use Rattle.mrp_inspect.specs.Words.{stray_text}
use Rattle.mrp_inspect.proofs.words.push_strays.Goals as goal

pub loop-stray-preserved : goal.loop-stray-preserved
loop-stray-preserved c =
    next-of stray_text c.args.strays.now c.loop-stray.stray-index c.stray-item.result _ _ _ _ c.loop-stray-test.true c.stray-item.is c.in_ok-push_stray.ensures c.loop-stray.invariant

pub returns : goal.returns
returns c = last-of stray_text c.args.strays.now c.loop-stray.stray-index _ _ c.loop-stray-test.false c.loop-stray.invariant
