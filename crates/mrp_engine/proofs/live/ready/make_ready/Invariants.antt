use Rattle.std.proofs.Common.{◌≡◌, ◌-◌, ◌++◌, map}
use Rattle.std.specs.Prelude.{All}
use Rattle.mrp_engine.specs.live.Begun.{IsReady}
use Rattle.mrp_engine.specs.live.DeskCalls.{calls_at}
use Rattle.mrp_engine.proofs.live.ready.make_ready.Given as goal

abbrev pub invariant-loop-desk : goal.invariant-loop-desk
invariant-loop-desk l = record {
  desks : l.fn.desks.items ≡ map (λ r. r.desk) l.all.items ++ l.desk-iterator.rest.items;
  ready : All (λ r. IsReady (calls_at l.lists (r.desk.number - 1)) r) l.all.items;
}
