use Rattle.std.proofs.Common.{◌≡◌}
use Rattle.mrp_turn.specs.Lists.{StartsWith}
use Rattle.mrp_explode.specs.Work.{HoldsNone}
use Rattle.mrp_explode.proofs.working.work_on.Given as goal

abbrev pub invariant-loop : goal.invariant-loop
invariant-loop g l = record {
  turn : l.worker.turn ≡ l.fn.worker.turn;
  number : l.worker.number ≡ l.fn.worker.number;
  seen : StartsWith l.worker.seen l.fn.worker.seen;
  holds : HoldsNone l.inputs.value l.fn.worker.number l.worker.mine;
}
