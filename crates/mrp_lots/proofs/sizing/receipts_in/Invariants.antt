use Rattle.std.proofs.Common.{◌≡◌, ◌≤◌, length, vec_capacity, vec_len}
use Rattle.mrp_phase.specs.Weeks.{in_week, row}
use Rattle.mrp_lots.specs.Lots.{receipts}
use Rattle.mrp_lots.proofs.sizing.receipts_in.Given as goal

abbrev pub invariant-loop-i : goal.invariant-loop-i
invariant-loop-i g l = record {
  before : l.before ≡ receipts (g.L.Lot.rule l.lot) (length l.needs) (in_week l.needs) l.i;
  received : l.received.items ≡ row l.i (receipts (g.L.Lot.rule l.lot) (length l.needs) (in_week l.needs));
  count : vec_len l.received ≡ l.i;
  room : length l.needs ≤ vec_capacity l.received;
}
