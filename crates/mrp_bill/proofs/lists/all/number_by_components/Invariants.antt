use Rattle.std.proofs.Common.{◌≡◌, ◌++◌, map, take}
use Rattle.mrp_bill.specs.BillLists.{of_parent}
use Rattle.mrp_bill.proofs.lists.all.number_by_components.Given as goal

abbrev pub invariant-loop-component : goal.invariant-loop-component
invariant-loop-component l = l.rows.items ≡ l.fn.rows.items ++ map (of_parent l.parent) (take l.component-index l.components)
