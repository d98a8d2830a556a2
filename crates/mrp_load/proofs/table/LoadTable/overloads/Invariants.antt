use Rattle.std.proofs.Common.{◌≡◌}
use Rattle.std.specs.Prelude.{flat_map}
use Rattle.std.specs.List.{range_with_len}
use Rattle.mrp_load.specs.Loads.{overloads_at}
use Rattle.mrp_load.proofs.table.LoadTable.overloads.Given as goal

abbrev pub invariant-loop-centre : goal.invariant-loop-centre
invariant-loop-centre l = l.all.items ≡ flat_map (overloads_at l.self) (range_with_len 0 l.centre)
