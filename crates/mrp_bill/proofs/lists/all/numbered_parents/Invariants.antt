use Rattle.std.proofs.Common.{◌≡◌}
use Rattle.mrp_bill.specs.Grouped.{listed}
use Rattle.mrp_bill.proofs.BillRows.{by_components}
use Rattle.mrp_bill.proofs.lists.all.numbered_parents.Given as goal

abbrev pub invariant-loop-parent : goal.invariant-loop-parent
invariant-loop-parent l = l.rows.items ≡ by_components (listed l.children) l.parent
