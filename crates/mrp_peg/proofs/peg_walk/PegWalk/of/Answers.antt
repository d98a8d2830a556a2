use Rattle.std.proofs.Common.{◌∙◌, ap}
use Rattle.mrp_item.specs.Places.{PlannedItem}
use Rattle.mrp_item.specs.Supplies.{supplies_of}
use Rattle.mrp_peg.specs.Left.{pegs_between}
use Rattle.mrp_peg.specs.Matching.{amounts_offered}
use Rattle.mrp_peg.specs.Pegging.{pegs_of, supplies}
use Rattle.mrp_peg.proofs.peg_walk.PegWalk.of.Goals as goal

pub returns-clause-pegs : goal.returns-clause-pegs
unfolding pegs_of supplies
returns-clause-pegs c =
    let offers = c.of-2.ensures ∙ ap amounts_offered (c.in_ok-supplies.ensures ∙ ap (λ (p : PlannedItem). supplies_of p.inputs p.item p.plan.orders) c.item.ensures) in
    λ j. pegs_between c.args.item (c.in_ok-needs.ensures.needs j) (offers j)
