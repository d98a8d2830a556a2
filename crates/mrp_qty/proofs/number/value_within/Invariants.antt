use Rattle.std.proofs.Common.{◌≡◌, ◌≤◌, drop}
use Rattle.mrp_qty.specs.Digits.{value_after, value_of}
use Rattle.mrp_qty.proofs.number.value_within.Given as goal

abbrev pub invariant-loop-digit : goal.invariant-loop-digit
invariant-loop-digit l = record {
  so_far : value_of l.digits ≡ value_after l.value (drop l.digit-index l.digits);
  within : l.value ≤ l.max;
}
