use Rattle.std.proofs.Common.{◌≡◌, take}
use Rattle.mrp_item.specs.Made.{items_from}
use Rattle.low_tests.proofs.tests.making.parents_of.Given as goal

abbrev pub invariant-loop-parent : goal.invariant-loop-parent
invariant-loop-parent l = l.copies.items ≡ items_from l.inputs (take l.parent-index l.parents)
