use Rattle.std.proofs.Common.{◌≡◌, length}
use Rattle.std.specs.Prelude.{vec_len}
use Rattle.mrp_loops.specs.Search.{AreListed}
use Rattle.mrp_loops.proofs.search.Search.clear.Given as goal

abbrev pub invariant-loop-met : goal.invariant-loop-met
invariant-loop-met l = record {
  listed : AreListed l.self;
  size : length l.self.far.items ≡ length l.fn.self.far.items;
}

abbrev pub decreases-loop-met : goal.decreases-loop-met
decreases-loop-met l = vec_len l.self.met
