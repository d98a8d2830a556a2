use Rattle.std.proofs.Common.{◌≡◌, map}
use Rattle.std.specs.List.{range_with_len}
use Rattle.mrp_bill.specs.BillLists.{to_component}
use Rattle.mrp_bill.proofs.lists.all.numbered_lines.Given as goal

abbrev pub invariant-loop-place : goal.invariant-loop-place
invariant-loop-place l = l.rows.items ≡ map (to_component l.lines) (range_with_len 0 l.place)
