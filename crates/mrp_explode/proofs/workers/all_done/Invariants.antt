use Rattle.std.proofs.Common.{◌≡◌, ◌++◌, map}
use Rattle.mrp_explode.specs.Workers.{done_by}
use Rattle.mrp_explode.proofs.workers.all_done.Given as goal

abbrev pub invariant-loop-worked : goal.invariant-loop-worked
invariant-loop-worked l = l.fn.all.items ≡ map done_by l.workers.items ++ l.worked-iterator.rest.items
