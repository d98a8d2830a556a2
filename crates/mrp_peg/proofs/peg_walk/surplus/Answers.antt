use Rattle.std.proofs.Common.{◌∙◌, ◌++◌, None, ap, sym}
use Rattle.mrp_peg.specs.Left.{amount_of_offer, offered_left, pegs_between, shown, required_left}
use Rattle.mrp_peg.proofs.Cuts.{supply_left}
use Rattle.mrp_peg.proofs.peg_walk.surplus.Goals as goal

pub returns-clause-told : goal.returns-clause-told
returns-clause-told c =
    let needs = required_left c.args.needs.now in
    supply_left c.args.item needs (offered_left c.args.supplies.now) (amount_of_offer c.args.offered) c.requires.none c.requires.offered
    ∙ ap (λ l. shown (record { item = c.args.item; need = None; supply = c.args.offered.source; quantity = c.args.offered.quantity }) ++ pegs_between c.args.item needs l) (sym c.pass.ensures)
