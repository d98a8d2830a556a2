use Rattle.std.proofs.Common.{◌≡◌, ◌++◌, map}
use Rattle.mrp_engine.proofs.live.merging.queues_of.Given as goal

abbrev pub invariant-loop-list : goal.invariant-loop-list
invariant-loop-list l = map (λ v. v.items) l.fn.runs.items ≡ map (λ q. q.items) l.queues.items ++ map (λ v. v.items) l.list-iterator.rest.items
