use Rattle.std.proofs.Common.{◌≡◌, length, map, take}
use Rattle.mrp_engine.specs.live.DeskCalls.{AreCallsOf}
use Rattle.mrp_script.specs.Script.{record_of}
use Rattle.mrp_engine.proofs.live.desk_calls.calls_by_desk.Given as goal

abbrev pub invariant-loop-row : goal.invariant-loop-row
invariant-loop-row l = record {
  size : length l.lists.items ≡ l.desks;
  calls : AreCallsOf (map record_of (take l.row-index l.script)) l.lists.items;
}
