use Rattle.std.proofs.Common.{◌≡◌, ◌≤◌, ◌+◌, ◌++◌, drop, length, take, vec_capacity}
use Rattle.std.specs.List.{AllZip}
use Rattle.mrp_book.specs.History.{asked}
use Rattle.mrp_engine.specs.day.Planned.{PlansRun}
use Rattle.mrp_engine.specs.live.DeskCalls.{asks}
use Rattle.mrp_engine.specs.live.Runs.{runs_at, runs_in}
use Rattle.mrp_engine.proofs.live.serving.serve.Given as goal

abbrev pub invariant-loop-call : goal.invariant-loop-call
invariant-loop-call g l = record {
  office : l.desk.turn ≡ l.fn.ready.desk.turn;
  desk : l.desk.number ≡ l.fn.ready.desk.number;
  served : asked l.desk.mine ≡ asked l.fn.ready.desk.mine ++ asks l.fn.ready.desk.number (take l.call-index l.calls);
  runs : AllZip PlansRun (runs_at l.shared.office.now l.desk.mine) l.runs.items;
  room : length l.runs.items + runs_in (drop l.call-index l.calls) ≤ vec_capacity l.runs;
}
