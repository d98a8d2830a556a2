use Rattle.std.proofs.Common.{◌≡◌, ℕ, length, take}
use Rattle.std.specs.Prelude.{filter}
use Rattle.mrp_bill.specs.Lists.{listed}
use Rattle.mrp_load.proofs.Grouped.{at_centre}
use Rattle.mrp_load.proofs.grouping.operations_by_centre.Given as goal

abbrev pub invariant-loop-operation : goal.invariant-loop-operation
invariant-loop-operation l = record {
  size : length l.groups.items ≡ l.count;
  grouped : (centre : ℕ) → listed l.groups.items centre ≡ filter (at_centre centre) (take l.operation-index l.operations);
}
