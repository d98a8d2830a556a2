use Rattle.std.proofs.Common.{◌≡◌, ◌∙◌, ◌++◌, List, length, min, Some, ap, sym, arith}
use Rattle.mrp_item.specs.declared.supplies.Supplied.{Supplied}
use Rattle.mrp_peg.specs.declared.peg.Need.{Need}
use Rattle.mrp_peg.specs.declared.peg.Peg.{Peg}
use Rattle.mrp_peg.specs.Left.{amount_of_offer, listed_left, offered_left, pegs_between, served, shown, to_come, required_left}
use Rattle.mrp_peg.specs.Matching.{amount_required}
use Rattle.mrp_peg.specs.Units.{Amount}
use Rattle.mrp_peg.proofs.Cuts.{both_served, both_shorter}
use Rattle.mrp_peg.proofs.peg_walk.serve.Goals as goal

pub returns-clause-told : goal.returns-clause-told
returns-clause-told c =
    let old = c.args.needs.now in
    let item = c.args.item in
    let taken = c.lesser-quantity.result in
    let offers = offered_left c.args.supplies.now in
    let least : taken ≡ min c.args.requirement.quantity c.args.offered.quantity = c.lesser-quantity.ensures in
    let left : required_left c.take.new.self ≡ served taken (listed_left old) ++ to_come old.part old.week = λ j. c.take.ensures.listed j ++ to_come (c.take.ensures.to_come.0 j) (c.take.ensures.to_come.1 j) in
    let peg : Peg = record { item = item; need = Some c.args.requirement.need; supply = c.args.offered.source; quantity = taken } in
    both_served item taken (listed_left old) (to_come old.part old.week) offers (amount_required c.args.requirement) (amount_of_offer c.args.offered) c.requires.requirement c.requires.offered least
    ∙ ap (λ (l : List (Amount Need)). shown peg ++ pegs_between item l (served taken offers)) (sym left)
    ∙ ap (λ (l : List (Amount Supplied)). shown peg ++ pegs_between item (required_left c.take.new.self) l) (sym c.take-2.ensures)

pub returns-clause-shorter : goal.returns-clause-shorter
returns-clause-shorter c =
    let old = c.args.needs.now in
    let taken = c.lesser-quantity.result in
    let least : taken ≡ min c.args.requirement.quantity c.args.offered.quantity = c.lesser-quantity.ensures in
    let left : required_left c.take.new.self ≡ served taken (listed_left old) ++ to_come old.part old.week = λ j. c.take.ensures.listed j ++ to_come (c.take.ensures.to_come.0 j) (c.take.ensures.to_come.1 j) in
    omega (arith, both_shorter taken (listed_left old) (to_come old.part old.week) (offered_left c.args.supplies.now) (amount_required c.args.requirement) (amount_of_offer c.args.offered) c.requires.requirement c.requires.offered least, ap length left, ap length c.take-2.ensures)
