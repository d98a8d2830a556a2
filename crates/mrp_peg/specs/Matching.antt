-- What the program's rows of requirements and supplies are.
use Rattle.std.specs.Prelude.{ℕ, List, map}
use Rattle.mrp_peg.specs.declared.peg.Need.{Need}
use Rattle.mrp_item.specs.declared.supplies.Supplied.{Supplied}
use Rattle.mrp_item.specs.declared.supplies.Supply.{Supply}
use Rattle.mrp_peg.specs.declared.peg.Peg.{Peg}
use Rattle.mrp_peg.specs.declared.matching.Requirement.{Requirement}
use Rattle.mrp_peg.specs.Units.{Amount, Match}

abbrev pub amount_required : Requirement → Amount Need
amount_required w = record { of = w.need; quantity = w.quantity }

abbrev pub amounts_required : List Requirement → List (Amount Need)
amounts_required needs = map amount_required needs

abbrev pub amount_offered : Supply → Amount Supplied
amount_offered x = record { of = x.source; quantity = x.quantity }

abbrev pub amounts_offered : List Supply → List (Amount Supplied)
amounts_offered supplies = map amount_offered supplies

-- a match of an item's requirements and supplies, as a peg
abbrev pub peg_of : ℕ → Match Need Supplied → Peg
peg_of item m = record { item = item; need = m.need; supply = m.supply; quantity = m.quantity }
