use Rattle.std.proofs.Common.{◌≡◌, ◌≤◌, drop}
use Rattle.std.specs.List.{fold}
use Rattle.mrp_page.specs.Amounts.{with_digit}
use Rattle.mrp_page.specs.declared.limits.TheConstants.{MOST_AMOUNT}
use Rattle.mrp_page.proofs.amounts.read_digits.Given as goal

abbrev pub invariant-loop-byte : goal.invariant-loop-byte
invariant-loop-byte l = record {
  within : l.number ≤ MOST_AMOUNT;
  so_far : fold with_digit l.number (drop l.byte-index l.text) ≡ fold with_digit 0 l.text;
}
