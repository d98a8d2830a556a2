use Rattle.std.proofs.Common.{◌≡◌, ◌∙◌, ◌∷◌, ◌++◌, List, [], ap, arith}
use Rattle.mrp_desk.specs.Offices.{Desk}
use Rattle.low_tests.proofs.TwoDesks.{both_desks}
use Rattle.low_tests.proofs.tests.offices.Pair.close.Goals as goal

pub close-requires-clause-all : goal.close-requires-clause-all
close-requires-clause-all g c n least most =
    let pair = c.args.self in
    let first : c.push_reserved.new.self.items ≡ pair.first ∷ [] = c.push_reserved.ensures.items ∙ ap (λ (xs : List Desk). xs ++ pair.first ∷ []) c.in-Ok.ensures.items in
    let both : c.push_reserved-2.new.self.items ≡ pair.first ∷ pair.second ∷ [] = c.push_reserved-2.ensures.items ∙ ap (λ (xs : List Desk). xs ++ pair.second ∷ []) first in
    both_desks c.push_reserved-2.new.self.items pair.first pair.second both pair.first_number pair.second_number n least (omega (arith, most, pair.count))
