use Rattle.std.proofs.Common.{◌∙◌, arith, sym}
use Rattle.mrp_item.proofs.Parents.{listed-at, length-listed}
use Rattle.mrp_item.proofs.parent_outcomes.ListedParentOutcomes.outcome.Goals as goal

pub place_of-requires-clause-rises : goal.place_of-requires-clause-rises
place_of-requires-clause-rises c = let (s, there) = c.requires in there.rises

pub place_of-requires-clause-there : goal.place_of-requires-clause-there
place_of-requires-clause-there c = let (s, there) = c.requires in there.there

pub bounds-self-place_of : goal.bounds-self-place_of
bounds-self-place_of c =
    let (s, there) = c.requires in
    omega (arith, c.place_of.ensures.within, length-listed _ _ _ there)

pub returns : goal.returns
returns c = λ s there. sym c.index-self-place_of.is ∙ listed-at s c.args.item c.place_of.result _ _ _ there c.place_of.ensures.within c.place_of.ensures.found c.index-self-place_of.is
