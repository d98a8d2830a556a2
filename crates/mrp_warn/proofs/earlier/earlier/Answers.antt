use Rattle.std.proofs.Common.{◌∙◌, arith}
use Rattle.indexmap.specs.IndexMap.{get}
use Rattle.mrp_warn.proofs.Firsts.{known-more, listed-all, listed-more}
use Rattle.mrp_warn.proofs.earlier.earlier.Goals as goal

pub loop-place-preserved : goal.loop-place-preserved
loop-place-preserved g c =
    let eq = g.K.PartialEq.eq in
    let keys = c.args.keys.now in
    let place = c.loop-place.place in
    let key = c.index-keys-place.result in
    let first = c.in_ok-first_of.field-0 in
    record {
      firsts = known-more g.met.K.Eq.laws keys place key (get eq c.loop-place.firsts) (get eq c.first_of.new.firsts) first c.loop-place-test.true c.index-keys-place.is c.loop-place.invariant.firsts c.in_ok-first_of.ensures.first c.in_ok-first_of.ensures.noted;
      places = c.in_ok-push.ensures.items ∙ listed-more eq keys place key first c.loop-place.places.items c.loop-place-test.true c.index-keys-place.is (c.in_ok-first_of.ensures.first ∙ c.loop-place.invariant.firsts key) c.loop-place.invariant.places;
    }

pub returns : goal.returns
returns g c = listed-all g.K.PartialEq.eq c.args.keys.now c.loop-place.place c.loop-place.places.items (omega (arith, c.loop-place-test.false)) c.loop-place.invariant.places
