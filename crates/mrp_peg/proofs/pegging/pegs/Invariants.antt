use Rattle.std.proofs.Common.{◌≡◌, ◌<◌, ℕ}
use Rattle.std.specs.Prelude.{flat_map}
use Rattle.std.specs.List.{range_with_len}
use Rattle.mrp_peg.specs.Laws.{AddUpToRequirements}
use Rattle.mrp_peg.specs.Pegging.{pegs_of}
use Rattle.mrp_peg.proofs.pegging.pegs.Given as goal

abbrev pub invariant-loop-item : goal.invariant-loop-item
invariant-loop-item l = record {
  whole : l.all.items ≡ flat_map (pegs_of l.plan.inputs) (range_with_len 0 l.item);
  sums : (i : ℕ) → i < l.item → AddUpToRequirements l.plan.inputs i (pegs_of l.plan.inputs i);
}
