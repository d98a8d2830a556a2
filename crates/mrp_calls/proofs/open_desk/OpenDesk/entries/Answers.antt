use Rattle.std.proofs.Common.{◌∙◌, ap, subst}
use Rattle.mrp_master.specs.Supply.{Supply, supply_of}
use Rattle.mrp_book.specs.History.{IsLegal}
use Rattle.mrp_calls.specs.Desk.{Desk}
use Rattle.mrp_calls.proofs.open_desk.OpenDesk.entries.Goals as goal

pub returns-clause-legal : goal.returns-clause-legal
returns-clause-legal c =
    subst (λ (s : Supply). IsLegal s c.entries.result.now) (c.self.invariant.supply ∙ ap (λ (d : Desk). supply_of d.tables) c.self.view_is) c.entries.ensures.legal
