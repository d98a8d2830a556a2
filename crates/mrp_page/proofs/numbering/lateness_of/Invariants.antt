use Rattle.std.proofs.Common.{◌≡◌, map, take}
use Rattle.mrp_page.specs.Numbering.{late_weeks}
use Rattle.mrp_page.proofs.numbering.lateness_of.Given as goal

abbrev pub invariant-loop-order : goal.invariant-loop-order
invariant-loop-order l = l.lateness.items ≡ map late_weeks (take l.order-index l.orders)
