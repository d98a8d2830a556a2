use Rattle.std.proofs.Common.{◌≡◌, ◌∙◌, ◌+◌, ◌++◌, List, Some, ap, drop, map, sym, subst, rules}
use Rattle.std.specs.Prelude.{slice_get, slice_range}
use Rattle.mrp_item.specs.declared.supplies.Supplied.{Supplied}
use Rattle.mrp_peg.specs.declared.matching.Requirement.{Requirement}
use Rattle.mrp_peg.specs.declared.peg.Need.{Need}
use Rattle.mrp_peg.specs.Groups.{AreWhole}
use Rattle.mrp_peg.specs.Left.{amount_of_offer, offered_left, pegs_between, required_left, served, to_come}
use Rattle.mrp_peg.specs.Matching.{amounts_required}
use Rattle.mrp_peg.specs.Units.{Amount}
use Rattle.mrp_peg.proofs.Groups.{group_passed, peg_for}
use Rattle.mrp_peg.proofs.peg_walk.PegWalk.next_group.Goals as goal

pub returns-clause-pegs : goal.returns-clause-pegs
returns-clause-pegs c =
    let item = c.args.self.now.item in
    let offers = offered_left c.args.self.now.supplies in
    let filled = c.first-2.new.self in
    let needs = filled.needs.items in
    let later = to_come filled.part filled.week in
    let offered = c.in-Some-Some.offered in
    let week = c.in-Some-Some.first.need.week in
    let count = c.count_whole-count.result.0 in
    let taken = c.count_whole-count.result.1 in
    let passed = c.pass-first.new.self in
    let are : AreWhole (drop filled.place needs) week offered.quantity count taken = subst (λ (l : List Requirement). AreWhole l week offered.quantity count taken) c.at_hand.ensures c.count_whole-count.ensures in
    let offer : Some (amount_of_offer offered) ≡ slice_get offers 0 = search rules in
    let rest : required_left passed ≡ amounts_required (drop (filled.place + count) needs) ++ later = λ j. amounts_required (drop (c.pass-first.ensures.place j) (c.pass-first.ensures.needs j).items) ++ to_come (c.pass-first.ensures.to_come.0 j) (c.pass-first.ensures.to_come.1 j) in
    let group : slice_range passed.needs.items c.pass-first.result (c.pass-first.result + count) ≡ slice_range needs filled.place (filled.place + count) = λ j. slice_range (c.pass-first.ensures.needs j).items (c.pass-first.ensures.first j) (c.pass-first.ensures.first j + count) in
    ap (λ (l : List (Amount Need)). pegs_between item l offers) (sym c.in_ok-first.ensures.left)
    ∙ group_passed item week count taken filled.place needs later offers (amount_of_offer offered) offer are
    ∙ ap (λ (l : List Requirement). map (peg_for item offered.source) l ++ pegs_between item (amounts_required (drop (filled.place + count) needs) ++ later) (served taken offers)) (sym group)
    ∙ ap (λ (l : List (Amount Need)). map (peg_for item offered.source) (slice_range passed.needs.items c.pass-first.result (c.pass-first.result + count)) ++ pegs_between item l (served taken offers)) (sym rest)
    ∙ ap (λ (l : List (Amount Supplied)). map (peg_for item offered.source) (slice_range passed.needs.items c.pass-first.result (c.pass-first.result + count)) ++ pegs_between item (required_left passed) l) (sym c.take.ensures)
