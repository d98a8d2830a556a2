use Rattle.std.proofs.Common.{◌≡◌, ◌∙◌, [], None, map, ap, sym, rules}
use Rattle.std.specs.Option.{option_map}
use Rattle.mrp_peg.specs.Left.{amount_of_offer, offered_left, pegs_between, required_left}
use Rattle.mrp_peg.specs.Matching.{amount_required, peg_of}
use Rattle.mrp_peg.proofs.Cuts.{matches_none, none_is}
use Rattle.mrp_peg.proofs.peg_walk.next_peg.Goals as goal

pub surplus-peg-requires-clause-none : goal.surplus-peg-requires-clause-none
surplus-peg-requires-clause-none c =
    let none : None ≡ c.in_ok-requirement.field-0 = search rules in
    none_is (required_left c.first-in-Some.new.self) (ap (option_map amount_required) none ∙ c.in_ok-requirement.ensures.first ∙ sym c.in_ok-requirement.ensures.filled)

pub returns : goal.returns
returns c =
    let needs = required_left c.loop-offered.needs in
    let none : None ≡ c.first.result = search rules in
    let offers : offered_left c.loop-offered.supplies ≡ [] = none_is (offered_left c.loop-offered.supplies) (ap (option_map amount_of_offer) none ∙ c.first.ensures) in
    let done = ap (pegs_between c.args.item needs) offers ∙ ap (map (peg_of c.args.item)) (matches_none needs) in
    (c.loop-offered.invariant ∙ done, done)
