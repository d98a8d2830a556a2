use Rattle.std.proofs.Common.{◌≡◌}
use Rattle.mrp_turn.specs.Lists.{StartsWith}
use Rattle.mrp_explode.proofs.working.take.Given as goal

abbrev pub invariant-loop : goal.invariant-loop
invariant-loop g l = record {
  turn : l.worker.turn ≡ l.fn.worker.turn;
  number : l.worker.number ≡ l.fn.worker.number;
  seen : StartsWith l.worker.seen l.fn.worker.seen;
  mine : l.worker.mine ≡ l.fn.worker.mine;
}
