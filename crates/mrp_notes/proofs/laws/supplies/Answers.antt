use Rattle.mrp_notes.proofs.MessageLaws.{of_item, of_supply}
use Rattle.mrp_notes.proofs.laws.supplies.Goals as goal

pub returns-clause-item : goal.returns-clause-item
returns-clause-item c = of_item

pub returns-clause-supply : goal.returns-clause-supply
returns-clause-supply c = of_supply
