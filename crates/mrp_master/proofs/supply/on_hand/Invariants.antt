use Rattle.std.proofs.Common.{◌≡◌, ◌<◌, ℕ, length, take, get_or}
use Rattle.mrp_master.specs.Supply.{on_hand_of}
use Rattle.mrp_master.proofs.supply.on_hand.Given as goal

abbrev pub invariant-loop-row : goal.invariant-loop-row
invariant-loop-row l = record {
  size : length l.on_hand.items ≡ length l.items;
  rows : (i : ℕ) → i < length l.items → get_or l.on_hand.items i 0 ≡ on_hand_of (take l.row-index l.rows) i;
}
