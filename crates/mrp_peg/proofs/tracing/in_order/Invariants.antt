use Rattle.std.proofs.Common.{◌≡◌, fold, []}
use Rattle.std.specs.Prelude.{flat_map}
use Rattle.std.specs.List.{range_with_len}
use Rattle.mrp_peg.specs.Pegging.{pegs_of}
use Rattle.mrp_peg.specs.Walk.{with_known}
use Rattle.mrp_peg.proofs.tracing.in_order.Given as goal

abbrev pub invariant-loop-item : goal.invariant-loop-item
invariant-loop-item l = l.found.keys ≡ fold (with_known l.ends.causes.keys) [] (flat_map (pegs_of l.plan.inputs) (range_with_len 0 l.item))
